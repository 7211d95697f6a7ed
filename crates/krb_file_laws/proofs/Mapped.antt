-- Readers that read the same octets and keep different parts of the value.
use Rattle.std.proofs.Common.{◌≡◌, ℕ, suc, Option, Result, Ok, Err, List, ◌∷◌, length, map, refl, ◌∙◌, ap}
use Rattle.std.specs.Int.{w16}
use Rattle.krb_file.specs.Fields.{Source, Fault, Bounds, limited, Reader, and_then, ◌>>=◌, succeed, called, begun_at, one_part, number_at}
use Rattle.krb_file.specs.declared.field_name.FieldName.TheVariants as field
use Rattle.krb_file.specs.declared.field_name.FilePart.TheVariants as parts
use Rattle.krb_file.proofs.Fields.{at}
use Rattle.krb_ccache.specs.declared.value.Credential.{Credential}
use Rattle.krb_ccache.specs.declared.value.Credential3.{Credential3}
use Rattle.krb_ccache.specs.Reading.{principal_in, credential_from, again_at, credential_fields_at, credential_at, one_enctype, both_enctypes, CacheItems, item_and, items_within, items_after}

module _ {A B : Type 0} (part : A → B) where
  abbrev of_read : Result (A × Source) Fault → Result (B × Source) Fault
  of_read (Ok p) = Ok (part p.0, p.1)
  of_read (Err f) = Err f

  abbrev pub Mapped : Reader A → Reader B → Type 0
  Mapped reader other = (bounds : Bounds) (s : Source) → of_read (reader bounds s) ≡ other bounds s

  and_then-mapped : {X : Type 0} (r : Result (X × Source) Fault) (next : X → Reader A) (others : X → Reader B) (bounds : Bounds) → ((x : X) → Mapped (next x) (others x)) → of_read (and_then r (λ p. next p.0 bounds p.1)) ≡ and_then r (λ p. others p.0 bounds p.1)
  and_then-mapped (Ok p) next others bounds same = same p.0 bounds p.1
  and_then-mapped (Err f) next others bounds same = refl

  Mapped-then : {X : Type 0} (reader : Reader X) (next : X → Reader A) (others : X → Reader B) → ((x : X) → Mapped (next x) (others x)) → Mapped (reader >>= next) (reader >>= others)
  Mapped-then reader next others same bounds s = and_then-mapped (reader bounds s) next others bounds same

  begun-mapped : (place : ℕ) (r : Result (A × Source) Fault) → of_read (begun_at place r) ≡ begun_at place (of_read r)
  begun-mapped place (Ok p) = refl
  begun-mapped place (Err f) = refl

  Mapped-one_part : (reader : Reader A) (other : Reader B) → Mapped reader other → Mapped (one_part reader) (one_part other)
  Mapped-one_part reader other same bounds s = begun-mapped s.place (reader bounds s) ∙ ap (begun_at s.place) (same bounds s)

  abbrev of_items : CacheItems A → CacheItems B
  of_items found = record { items = map part found.items; end = found.end }

  and-mapped : (r : Result (A × Source) Fault) (next : Source → CacheItems A) (others : Source → CacheItems B) → ((t : Source) → of_items (next t) ≡ others t) → of_items (item_and r next) ≡ item_and (of_read r) others
  and-mapped (Err f) next others same = refl
  and-mapped (Ok p) next others same = ap (λ (i : CacheItems B). let it : CacheItems B = record { items = part p.0 ∷ i.items; end = i.end } in it) (same p.1)

  module _ (item_at : Reader A) (other_at : Reader B) (mapped : Mapped item_at other_at) (limit : Option ℕ) where
    within-mapped : (bound place : ℕ) (octets : List ℕ) → of_items (items_within bound item_at limit (at place octets)) ≡ items_within bound other_at limit (at place octets)
    within-mapped (suc bound) place (octet ∷ octets) =
        let s = at place (octet ∷ octets) in
        and-mapped (item_at (limited limit) s) (items_within bound item_at limit) (items_within bound other_at limit) (λ t. within-mapped bound t.place t.octets)
        ∙ ap (λ (r : Result (B × Source) Fault). item_and r (items_within bound other_at limit)) (mapped (limited limit) s)
    within-mapped other place another = refl

    pub items-mapped : (s : Source) → of_items (items_after item_at limit s) ≡ items_after other_at limit s
    items-mapped s = within-mapped (length s.octets) s.place s.octets

-- a credential of version 3, and the credential alone
abbrev pub credential_part : Credential3 → Credential
credential_part c = c.credential

pub Mapped-one_enctype : (version : ℕ) → Mapped credential_part (credential_at both_enctypes version) (credential_at one_enctype version)
Mapped-one_enctype version =
    Mapped-one_part credential_part (credential_fields_at both_enctypes version) (credential_fields_at one_enctype version)
    (Mapped-then credential_part (principal_in parts.Client) _ _ (λ client.
    Mapped-then credential_part (principal_in parts.Server) _ _ (λ server.
    Mapped-then credential_part (called field.Enctype (number_at w16)) _ _ (λ enctype.
    Mapped-then credential_part (again_at version enctype) _ _ (λ again.
    Mapped-then credential_part (credential_from client server enctype) (λ credential. succeed (both_enctypes credential again)) (λ credential. succeed (one_enctype credential again)) (λ credential bounds s. refl))))))
