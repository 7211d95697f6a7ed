-- Caches that differ in octets of a key: all else is read alike.
use Rattle.std.proofs.Common.{◌≡◌, ℕ, zero, suc, ◌==◌, ◌<◌, ◌≤◌, Bool, true, false, Option, None, Result, Ok, Err, List, [], ◌∷◌, ◌++◌, length, take, drop, refl, sym, ◌∙◌, ap, subst, arith, append_assoc, length-append, take-append-drop}
use Rattle.std.specs.Int.{w8, w16, w32}
use Rattle.krb_der.specs.Octets.{when}
use Rattle.krb_file.specs.Fields.{Source, Fault, limited, Reader, and_then, ◌>>=◌, succeed, called, in_part, number_at, signed_at, counted_at, names_at, within, is_at_end, version_at}
use Rattle.krb_file.specs.declared.field_name.FieldName.{FieldName}
use Rattle.krb_file.specs.declared.field_name.FieldName.TheVariants as field
use Rattle.krb_file.specs.declared.field_name.FilePart.{FilePart}
use Rattle.krb_file.specs.declared.field_name.FilePart.TheVariants as parts
use Rattle.krb_file.proofs.Fields.{at, done, ok_is, and_then-ok}
use Rattle.krb_file.proofs.Steps.{Steps-then, Steps-called, Steps-number}
use Rattle.krb_file_laws.proofs.FileLimits.{bounded}
use Rattle.krb_file_laws.proofs.Stable.{IsReadBefore, Read, Fails, Stable, Stable-then, Stable-succeed, Stable-called, Stable-in_part, Stable-one_part, Stable-number, Stable-signed, Stable-counted, Stable-times, Stable-names, Stable-within, Stable-version, IsAlike, masked_read, alike, alike-then, alike-one_part, IsSame, same-then, same-last, field-alike}
use Rattle.krb_ccache.specs.declared.value.Credential.{Credential}
use Rattle.krb_ccache.specs.declared.value.FilePrincipal.{FilePrincipal}
use Rattle.krb_ccache.specs.declared.reading.Start.{Start}
use Rattle.krb_ccache.specs.Spelling.{no_header, masked_credential}
use Rattle.krb_file.specs.Items.{no_items, with_first}
use Rattle.krb_ccache.specs.Reading.{principal_at, principal_in, typed_at, typed_list_at, credential_from, again_at, credential_fields_at, credential_at, one_enctype, header_field_at, header_fields_at, header_at, header_in, start_at, CacheItems, item_and, items_within}
use Rattle.krb_ccache.specs.Streaming.{file_start, credentials_of}
use Rattle.krb_ccache.specs.Laws.{key_size_at, IsUpToKey, masked_items, start_alone, AreAlike}
use Rattle.krb_ccache.proofs.Faults.{Steps-principal_in, Steps-again}
use Rattle.krb_ccache.proofs.Stepwise.{Shortens, Shortens-then, Shortens-in_part, Shortens-principal, Shortens-credential}

-- ---- what octets have, whatever follows them
number32 : (name : FieldName) → Stable (called name (number_at w32))
number32 name = Stable-called name (number_at w32) (Stable-number w32)

number16 : (name : FieldName) → Stable (called name (number_at w16))
number16 name = Stable-called name (number_at w16) (Stable-number w16)

number8 : (name : FieldName) → Stable (called name (number_at w8))
number8 name = Stable-called name (number_at w8) (Stable-number w8)

octets32 : (name : FieldName) → Stable (called name (counted_at w32))
octets32 name = Stable-called name (counted_at w32) (Stable-counted w32)

Stable-principal_in : (part : FilePart) → Stable (principal_in part)
Stable-principal_in part =
    Stable-in_part part principal_at
    (Stable-then (called field.NameType (signed_at w32)) _ (Stable-called field.NameType (signed_at w32) (Stable-signed w32)) (λ name_type.
    Stable-then (names_at w32) _ (Stable-names w32) (λ names. Stable-succeed (record { name_type = name_type; realm = names.realm; components = names.components }))))

Stable-typed_list : (name : FieldName) (part : ℕ → FilePart) → Stable (typed_list_at name part)
Stable-typed_list name part =
    Stable-then (called name (number_at w32)) _ (number32 name) (λ count.
    Stable-times (λ index. in_part (part index) typed_at) (λ index. Stable-in_part (part index) typed_at
    (Stable-then (called field.Type (number_at w16)) _ (number16 field.Type) (λ kind. Stable-then (called field.Octets (counted_at w32)) _ (octets32 field.Octets) (λ octets. Stable-succeed (record { kind = kind; octets = octets }))))) count)

Stable-from_key : (client server : FilePrincipal) (enctype : ℕ) → Stable (credential_from client server enctype)
Stable-from_key client server enctype =
    Stable-then (called field.Key (counted_at w32)) _ (octets32 field.Key) (λ key.
    Stable-then (called field.AuthTime (number_at w32)) _ (number32 field.AuthTime) (λ authtime.
    Stable-then (called field.StartTime (number_at w32)) _ (number32 field.StartTime) (λ starttime.
    Stable-then (called field.EndTime (number_at w32)) _ (number32 field.EndTime) (λ endtime.
    Stable-then (called field.RenewTill (number_at w32)) _ (number32 field.RenewTill) (λ renew_till.
    Stable-then (called field.IsSkey (number_at w8)) _ (number8 field.IsSkey) (λ is_skey.
    Stable-then (called field.TicketFlags (number_at w32)) _ (number32 field.TicketFlags) (λ flags.
    Stable-then (typed_list_at field.AddressCount parts.Address) _ (Stable-typed_list field.AddressCount parts.Address) (λ addresses.
    Stable-then (typed_list_at field.AuthdataCount parts.Authdata) _ (Stable-typed_list field.AuthdataCount parts.Authdata) (λ authdata.
    Stable-then (called field.Ticket (counted_at w32)) _ (octets32 field.Ticket) (λ ticket.
    Stable-then (called field.SecondTicket (counted_at w32)) _ (octets32 field.SecondTicket) (λ second_ticket.
    Stable-succeed (record { client = client; server = server; enctype = enctype; key = key; authtime = authtime; starttime = starttime; endtime = endtime; renew_till = renew_till; is_skey = is_skey; flags = flags; addresses = addresses; authdata = authdata; ticket = ticket; second_ticket = second_ticket }))))))))))))

-- one of two readers
either_one : {A : Type 0} (test : Bool) (first second : Reader A) → Stable first → Stable second → Stable (when test (λ _. first) (λ _. second))
either_one true first second p q = p
either_one false first second p q = q

Stable-again : (version enctype : ℕ) → Stable (again_at version enctype)
Stable-again version enctype = either_one (version == 3) (called field.Enctype (number_at w16)) (succeed enctype) (number16 field.Enctype) (Stable-succeed enctype)

Stable-credential : (version : ℕ) → Stable (credential_at one_enctype version)
Stable-credential version =
    Stable-one_part (credential_fields_at one_enctype version)
    (Stable-then (principal_in parts.Client) _ (Stable-principal_in parts.Client) (λ client.
    Stable-then (principal_in parts.Server) _ (Stable-principal_in parts.Server) (λ server.
    Stable-then (called field.Enctype (number_at w16)) _ (number16 field.Enctype) (λ enctype.
    Stable-then (again_at version enctype) _ (Stable-again version enctype) (λ again.
    Stable-then (credential_from client server enctype) _ (Stable-from_key client server enctype) (λ credential. Stable-succeed (one_enctype credential again)))))))

-- a test of the place, or a reader
Stable-unless : {A : Type 0} (value : A) (reader : Reader A) → Stable reader → Stable (λ bounds s. when (is_at_end bounds s) (λ _. Ok (value, s)) (λ _. reader bounds s))
Stable-unless {A} value reader one = record {
  stable = λ end limit place octets v t e. by_test (is_at_end (bounded end None) (at place octets)) end limit place octets v t refl e;
}
  where
    by_test : (test : Bool) (end limit : Option ℕ) (place : ℕ) (octets : List ℕ) (v : A) (t : Source) → is_at_end (bounded end None) (at place octets) ≡ test → when test (λ _. succeed value (bounded end None) (at place octets)) (λ _. reader (bounded end None) (at place octets)) ≡ Ok (v, t)
        → IsReadBefore (λ bounds s. when (is_at_end bounds s) (λ _. succeed value bounds s) (λ _. reader bounds s)) (bounded end limit) place octets v t
    by_test true end limit place octets v t is e =
        subst (λ (p : A × Source). IsReadBefore (λ bounds s. when (is_at_end bounds s) (λ _. succeed value bounds s) (λ _. reader bounds s)) (bounded end limit) place octets p.0 p.1) (ok_is (value, at place octets) (v, t) e)
        (Read (λ others. ap (λ (b : Bool). when b (λ _. done (value, at place (octets ++ others))) (λ _. reader (bounded end limit) (at place (octets ++ others)))) is))
    by_test false end limit place octets v t is e = go (one.stable end limit place octets v t e)
      where
        go : IsReadBefore reader (bounded end limit) place octets v t → IsReadBefore (λ bounds s. when (is_at_end bounds s) (λ _. succeed value bounds s) (λ _. reader bounds s)) (bounded end limit) place octets v t
        go (Read read) = Read (λ others. ap (λ (b : Bool). when b (λ _. done (value, at place (octets ++ others))) (λ _. reader (bounded end limit) (at place (octets ++ others)))) is ∙ read others)
        go (Fails f fails) = Fails f (λ others. ap (λ (b : Bool). when b (λ _. done (value, at place (octets ++ others))) (λ _. reader (bounded end limit) (at place (octets ++ others)))) is ∙ fails others)

Stable-header_fields : (bound before : ℕ) → Stable (header_fields_at bound before)
Stable-header_fields zero before = Stable-succeed []
Stable-header_fields (suc bound) before =
    Stable-unless [] _
    (Stable-then (in_part (parts.Header before) header_field_at) _
    (Stable-in_part (parts.Header before) header_field_at
    (Stable-then (called field.Tag (number_at w16)) _ (number16 field.Tag) (λ tag. Stable-then (called field.Value (counted_at w16)) _ (Stable-called field.Value (counted_at w16) (Stable-counted w16)) (λ value. Stable-succeed (record { tag = tag; value = value })))))
    (λ first. Stable-then (header_fields_at bound (suc before)) _ (Stable-header_fields bound (suc before)) (λ others. Stable-succeed (first ∷ others))))

Stable-header : Stable header_at
Stable-header =
    Stable-then (called field.HeaderLength (number_at w16)) _ (number16 field.HeaderLength) (λ size.
    Stable-then (within size (header_fields_at size 0)) _ (Stable-within size (header_fields_at size 0) (Stable-header_fields size 0)) (λ fields. Stable-succeed (record { fields = fields })))

Stable-start : (versions : List ℕ) → Stable (start_at versions)
Stable-start versions =
    Stable-then (version_at versions) _ (Stable-version versions) (λ version.
    Stable-then (header_in version) _ (either_one (version == 3) (succeed no_header) header_at (Stable-succeed no_header) Stable-header) (λ header.
    Stable-then (principal_in parts.Principal) _ (Stable-principal_in parts.Principal) (λ principal. Stable-succeed (record { version = version; header = header; principal = principal }))))

-- ---- a credential
-- what follows the octets of the key
abbrev after_key : FilePrincipal → FilePrincipal → ℕ → List ℕ → Reader Credential
after_key client server enctype key = do
  authtime ← called field.AuthTime (number_at w32)
  starttime ← called field.StartTime (number_at w32)
  endtime ← called field.EndTime (number_at w32)
  renew_till ← called field.RenewTill (number_at w32)
  is_skey ← called field.IsSkey (number_at w8)
  flags ← called field.TicketFlags (number_at w32)
  addresses ← typed_list_at field.AddressCount parts.Address
  authdata ← typed_list_at field.AuthdataCount parts.Authdata
  ticket ← called field.Ticket (counted_at w32)
  second_ticket ← called field.SecondTicket (counted_at w32)
  succeed (record { client = client; server = server; enctype = enctype; key = key; authtime = authtime; starttime = starttime; endtime = endtime; renew_till = renew_till; is_skey = is_skey; flags = flags; addresses = addresses; authdata = authdata; ticket = ticket; second_ticket = second_ticket })

after_key-same : (client server : FilePrincipal) (enctype : ℕ) (v w : List ℕ) → length v ≡ length w → IsSame masked_credential (after_key client server enctype v) (after_key client server enctype w)
after_key-same client server enctype v w l =
    same-then (called field.AuthTime (number_at w32)) _ _ (λ authtime.
    same-then (called field.StartTime (number_at w32)) _ _ (λ starttime.
    same-then (called field.EndTime (number_at w32)) _ _ (λ endtime.
    same-then (called field.RenewTill (number_at w32)) _ _ (λ renew_till.
    same-then (called field.IsSkey (number_at w8)) _ _ (λ is_skey.
    same-then (called field.TicketFlags (number_at w32)) _ _ (λ flags.
    same-then (typed_list_at field.AddressCount parts.Address) _ _ (λ addresses.
    same-then (typed_list_at field.AuthdataCount parts.Authdata) _ _ (λ authdata.
    same-then (called field.Ticket (counted_at w32)) _ _ (λ ticket.
    same-then (called field.SecondTicket (counted_at w32)) _ _ (λ second_ticket.
    same-last _ _ (rw l refl)))))))))))

-- the credential alone
kept-masked : (again : ℕ) (r : Result (Credential × Source) Fault) → masked_read masked_credential (and_then r (λ p. done (one_enctype p.0 again, p.1))) ≡ masked_read masked_credential r
kept-masked again (Ok p) = refl
kept-masked again (Err f) = refl

kept-alike : (again : ℕ) (reader : Reader Credential) (place : ℕ) (octets after other : List ℕ) → IsAlike masked_credential reader None place octets after other → IsAlike masked_credential (reader >>= λ credential. succeed (one_enctype credential again)) None place octets after other
kept-alike again reader place octets after other one = record {
  same = λ limit. kept-masked again (reader (limited limit) (at place (octets ++ after))) ∙ one.same limit ∙ sym (kept-masked again (reader (limited limit) (at place (octets ++ other))));
}

credential-alike : (version place : ℕ) (octets : List ℕ) (size : ℕ) (t : Source) (key other after : List ℕ) → key_size_at version (limited None) (at place octets) ≡ Ok (size, t) → t.octets ≡ [] → length key ≤ size → length other ≡ length key
    → IsAlike masked_credential (credential_at one_enctype version) None place octets (key ++ after) (other ++ after)
credential-alike version place octets size t key other after e none le len =
    let b = limited None in
    let a = and_then-ok (principal_in parts.Client b (at place octets)) _ (size, t) e in
    let c = and_then-ok (principal_in parts.Server b a.0.1) _ (size, t) a.2 in
    let d = and_then-ok (called field.Enctype (number_at w16) b c.0.1) _ (size, t) c.2 in
    let f = and_then-ok (again_at version d.0.0 b d.0.1) _ (size, t) d.2 in
    alike-one_part (credential_fields_at one_enctype version)
    (alike-then (principal_in parts.Client) _ (Stable-principal_in parts.Client) a.0.0 a.0.1 a.1
    (alike-then (principal_in parts.Server) _ (Stable-principal_in parts.Server) c.0.0 c.0.1 c.1
    (alike-then (called field.Enctype (number_at w16)) _ (number16 field.Enctype) d.0.0 d.0.1 d.1
    (alike-then (again_at version d.0.0) _ (Stable-again version d.0.0) f.0.0 f.0.1 f.1
    (kept-alike f.0.0 (credential_from a.0.0 c.0.0 d.0.0) f.0.1.place f.0.1.octets (key ++ after) (other ++ after)
    (field-alike masked_credential w32 field.Key (after_key a.0.0 c.0.0 d.0.0) (after_key-same a.0.0 c.0.0 d.0.0) None f.0.1.place f.0.1.octets size t key other after f.2 none le len))))))

-- ---- credentials
-- what is made of the next credential, its key masked
abbrev masked_and : Result (Credential × Source) Fault → (Source → CacheItems Credential) → CacheItems Credential
masked_and (Err f) others = no_items (Err f)
masked_and (Ok read) others = with_first read.0 (masked_items (others read.1))

item_and-masked : (r : Result (Credential × Source) Fault) (others : Source → CacheItems Credential) → masked_items (item_and r others) ≡ masked_and (masked_read masked_credential r) others
item_and-masked (Err f) others = refl
item_and-masked (Ok p) others = refl

module _ (version : ℕ) where
  abbrev item_at : Reader Credential
  item_at = credential_at one_enctype version

  some-alike : (bound : ℕ) (limit : Option ℕ) (place : ℕ) (octets after other : List ℕ) → 0 < length octets → IsAlike masked_credential item_at None place octets after other
      → masked_items (items_within (suc bound) item_at limit (at place (octets ++ after))) ≡ masked_items (items_within (suc bound) item_at limit (at place (octets ++ other)))
  some-alike bound limit place [] after other some same = absurd (omega arith)
  some-alike bound limit place (octet ∷ octets) after other some same =
      let others = items_within bound item_at limit in
      item_and-masked (item_at (limited limit) (at place (octet ∷ (octets ++ after)))) others
      ∙ ap (λ (r : Result (Credential × Source) Fault). masked_and r others) (same.same limit)
      ∙ sym (item_and-masked (item_at (limited limit) (at place (octet ∷ (octets ++ other)))) others)

  -- the credential that was read alone, and then the others
  step-alike : (more : ℕ) (limit : Option ℕ) (place : ℕ) (octets after other : List ℕ) (c : Credential) (t : Source) → item_at (limited None) (at place octets) ≡ Ok (c, t)
      → masked_items (items_within more item_at limit (at t.place (t.octets ++ after))) ≡ masked_items (items_within more item_at limit (at t.place (t.octets ++ other)))
      → masked_items (item_and (item_at (limited limit) (at place (octets ++ after))) (items_within more item_at limit)) ≡ masked_items (item_and (item_at (limited limit) (at place (octets ++ other))) (items_within more item_at limit))
  step-alike more limit place octets after other c t e later =
      alike (λ (r : Result (Credential × Source) Fault). masked_items (item_and r (items_within more item_at limit))) item_at (Stable-credential version) None limit place octets c t after other e (ap (with_first (masked_credential c)) later)

  -- the first item, if the items end without a fault
  pub record First (bound k : ℕ) (s : Source) : Type 0 where
    pub first : Credential
    pub after : Source
    pub read : item_at (limited None) s ≡ Ok (first, after)
    pub others : (items_within bound item_at None after).end ≡ Ok k

  first-read : (bound k : ℕ) (s : Source) (r : Result (Credential × Source) Fault) → item_at (limited None) s ≡ r → (item_and r (items_within bound item_at None)).end ≡ Ok k → First bound k s
  first-read bound k s (Err f) is e = absurd cc
  first-read bound k s (Ok (c, t)) is e = record { first = c; after = t; read = is; others = e }

  items-alike : (bound place : ℕ) (before : List ℕ) (k : ℕ) → length before ≤ bound → (items_within bound item_at None (at place before)).end ≡ Ok k
      → (more : ℕ) (limit : Option ℕ) (octets after other : List ℕ) → 0 < length octets → IsAlike masked_credential item_at None k octets after other
      → masked_items (items_within more item_at limit (at place (before ++ (octets ++ after)))) ≡ masked_items (items_within more item_at limit (at place (before ++ (octets ++ other))))
  items-alike bound place before k le e zero limit octets after other some same = refl
  items-alike zero place (octet ∷ before) k le e (suc more) limit octets after other some same = absurd (omega arith)
  items-alike (suc bound) place (octet ∷ before) k le e (suc more) limit octets after other some same =
      let s = at place (octet ∷ before) in
      let f = first-read bound k s (item_at (limited None) s) refl e in
      let shorter = (Shortens-credential one_enctype version).shorter (limited None) s f.first f.after f.read in
      step-alike more limit place (octet ∷ before) (octets ++ after) (octets ++ other) f.first f.after f.read
      (items-alike bound f.after.place f.after.octets k (omega (arith, shorter, le)) f.others more limit octets after other some same)
  items-alike zero place [] k le e (suc more) limit octets after other some same = some-alike more limit place octets after other some (subst (λ (p : ℕ). IsAlike masked_credential item_at None p octets after other) (sym (ok_is place k e)) same)
  items-alike (suc bound) place [] k le e (suc more) limit octets after other some same = some-alike more limit place octets after other some (subst (λ (p : ℕ). IsAlike masked_credential item_at None p octets after other) (sym (ok_is place k e)) same)

-- ---- a file
Shortens-key_size : (version : ℕ) → Shortens (key_size_at version)
Shortens-key_size version =
    Shortens-then (principal_in parts.Client) _ (Shortens-in_part parts.Client principal_at Shortens-principal) (λ client.
    Steps-then (principal_in parts.Server) _ (Steps-principal_in parts.Server) (λ server.
    Steps-then (called field.Enctype (number_at w16)) _ (Steps-called field.Enctype (number_at w16) (Steps-number w16)) (λ enctype.
    Steps-then (again_at version enctype) _ (Steps-again version enctype) (λ again. Steps-called field.Key (number_at w32) (Steps-number w32)))))

-- what is made of the start and of what is left
file-alike : {R : Type 0} (F : Result (Start × Source) Fault → R) (limit : Option ℕ) (first octets before after other : List ℕ) (st : Start) (u : Source) → file_start None first ≡ Ok (st, u) → before ≡ first ++ octets
    → F (Ok (st, at u.place (u.octets ++ (octets ++ after)))) ≡ F (Ok (st, at u.place (u.octets ++ (octets ++ other)))) → F (file_start limit (before ++ after)) ≡ F (file_start limit (before ++ other))
file-alike F limit first octets before after other st u begins is same =
    let file = λ (rest : List ℕ). ap (λ (x : List ℕ). x ++ rest) is ∙ append_assoc first octets rest in
    ap (λ (x : List ℕ). F (file_start limit x)) (file after)
    ∙ alike F (start_at (3 ∷ 4 ∷ [])) (Stable-start (3 ∷ 4 ∷ [])) None limit 0 first st u (octets ++ after) (octets ++ other) begins same
    ∙ ap (λ (x : List ℕ). F (file_start limit x)) (sym (file other))

pub keys-alone : (limit : Option ℕ) (before key other after : List ℕ) (size : ℕ) → IsUpToKey before size → length key ≤ size → length other ≡ length key → AreAlike limit (before ++ (key ++ after)) (before ++ (other ++ after))
keys-alone limit before key other after size up le len =
    let first = take up.whole before in
    let octets = drop up.whole before in
    let u = up.after in
    let v = up.start.version in
    let parts = sym (take-append-drop up.whole before) in
    let some : 0 < length octets = omega (arith, (Shortens-key_size v).shorter (limited None) (at up.whole octets) size up.end up.fields) in
    let here = credential-alike v up.whole octets size up.end key other after up.fields up.all le len in
    let ended = ap (λ (r : Result (Start × Source) Fault). (credentials_of None r).end) (sym up.begins) ∙ up.ended in
    let lengths : length (u.octets ++ (octets ++ (key ++ after))) ≡ length (u.octets ++ (octets ++ (other ++ after))) = omega (arith, length-append u.octets (octets ++ (key ++ after)), length-append octets (key ++ after), length-append key after, length-append u.octets (octets ++ (other ++ after)), length-append octets (other ++ after), length-append other after) in
    let later = items-alike v (length u.octets) u.place u.octets up.whole (omega arith) ended (length (u.octets ++ (octets ++ (key ++ after)))) limit octets (key ++ after) (other ++ after) some here in
    let counted = ap (λ (n : ℕ). masked_items (items_within n (credential_at one_enctype v) limit (at u.place (u.octets ++ (octets ++ (other ++ after)))))) lengths in
    record {
      starts = file-alike start_alone limit first octets before (key ++ after) (other ++ after) up.start u up.begins parts refl;
      credentials = file-alike (λ r. masked_items (credentials_of limit r)) limit first octets before (key ++ after) (other ++ after) up.start u up.begins parts (later ∙ counted);
    }
