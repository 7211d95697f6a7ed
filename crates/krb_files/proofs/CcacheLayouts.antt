-- The parts of a cache and of a credential, in the order of their spelling.
use Rattle.std.proofs.Common.{◌≡◌, ℕ, List, ◌∷◌, ◌++◌, ap, ap₂, ◌∙◌, append_assoc}
use Rattle.std.specs.List.{flat_map}
use Rattle.std.specs.Int.{w8, w16, w32, to_be_bytes}
use Rattle.krb_file.specs.Fields.{counted}
use Rattle.krb_ccache.specs.declared.value.Ccache.{Ccache}
use Rattle.krb_ccache.specs.declared.value.Credential.{Credential}
use Rattle.krb_ccache.specs.declared.value.Typed.{Typed}
use Rattle.krb_ccache.specs.Spelling.{principal, typed_list, credential, header, ccache}

regroup : (a b c d e f g h i j k l m n : List ℕ) → (a ++ b) ++ (c ++ (d ++ (((e ++ (f ++ (g ++ h))) ++ (i ++ j)) ++ ((k ++ l) ++ (m ++ n))))) ≡ (a ++ b ++ c) ++ (d ++ e ++ f ++ g ++ h ++ i ++ j ++ k ++ l ++ m ++ n)
regroup a b c d e f g h i j k l m n = simp append_assoc

pub credential_octets : (c : Credential) (addresses authdata : List Typed) → addresses ≡ c.addresses → authdata ≡ c.authdata →
    (principal c.client ++ principal c.server)
    ++ (to_be_bytes w16 c.enctype
    ++ (counted w32 c.key
    ++ (((to_be_bytes w32 c.authtime ++ (to_be_bytes w32 c.starttime ++ (to_be_bytes w32 c.endtime ++ to_be_bytes w32 c.renew_till)))
    ++ (to_be_bytes w8 c.is_skey ++ to_be_bytes w32 c.flags))
    ++ ((typed_list addresses ++ typed_list authdata)
    ++ (counted w32 c.ticket ++ counted w32 c.second_ticket))))) ≡ credential c
credential_octets c addresses authdata p q =
    regroup (principal c.client) (principal c.server) (to_be_bytes w16 c.enctype) (counted w32 c.key) (to_be_bytes w32 c.authtime) (to_be_bytes w32 c.starttime) (to_be_bytes w32 c.endtime) (to_be_bytes w32 c.renew_till) (to_be_bytes w8 c.is_skey) (to_be_bytes w32 c.flags) (typed_list addresses) (typed_list authdata) (counted w32 c.ticket) (counted w32 c.second_ticket)
    ∙ ap₂ (λ (x y : List Typed). (principal c.client ++ principal c.server ++ to_be_bytes w16 c.enctype) ++ (counted w32 c.key ++ to_be_bytes w32 c.authtime ++ to_be_bytes w32 c.starttime ++ to_be_bytes w32 c.endtime ++ to_be_bytes w32 c.renew_till ++ to_be_bytes w8 c.is_skey ++ to_be_bytes w32 c.flags ++ typed_list x ++ typed_list y ++ counted w32 c.ticket ++ counted w32 c.second_ticket)) p q

regroup_file : (a b c : List ℕ) → 5 ∷ 4 ∷ (a ++ (b ++ c)) ≡ 5 ∷ 4 ∷ a ++ b ++ c
regroup_file a b c = simp append_assoc

pub ccache_octets : (v : Ccache) (credentials : List Credential) → credentials ≡ v.credentials → 5 ∷ 4 ∷ (header v.header ++ (principal v.principal ++ flat_map credential credentials)) ≡ ccache v
ccache_octets v credentials p = regroup_file (header v.header) (principal v.principal) (flat_map credential credentials) ∙ ap (λ (cs : List Credential). 5 ∷ 4 ∷ header v.header ++ principal v.principal ++ flat_map credential cs) p
