-- Reading under a limit depends neither on the place nor on what follows: the same octets are read as the same value in any other file.
use Rattle.std.proofs.Common.{◌≡◌, ℕ, zero, suc, ◌+◌, ltb, Option, None, Result, Ok, List, [], ◌∷◌, ◌++◌, length, drop, refl, sym, ◌∙◌, ap, subst, arith, append_assoc, length-append, length-take, le-ltb, take-append-drop, drop_at, false}
use Rattle.std.proofs.lemmas.List.{take_at, append_cancel_right}
use Rattle.std.specs.Int.{Width, w8, w16, w32, byte_len, from_be_bytes, cast_signed}
use Rattle.krb_der.specs.Octets.{AreOctets}
use Rattle.krb_file.specs.Fields.{Source, Fault, limited, Reader, and_then, ◌>>=◌, succeed, with_name, with_part, refused_at, begun_at, called, one_part, in_part, exceeds, next_octets_at, octets_at, number_at, signed_at, counted_at, times, component_at, names_at}
use Rattle.krb_file.specs.declared.field_name.FieldName.{FieldName}
use Rattle.krb_file.specs.declared.field_name.FieldName.TheVariants as field
use Rattle.krb_file.specs.declared.field_name.FilePart.{FilePart}
use Rattle.krb_file.specs.declared.field_name.FilePart.TheVariants as parts
use Rattle.krb_file.specs.declared.field_name.FileField.{FileField}
use Rattle.krb_file.proofs.Fields.{refused_at-ok, begun_at-ok, at_field, at, done, ok_is, and_then-ok, piece-ok, Reads}
use Rattle.krb_ccache.specs.declared.value.FilePrincipal.{FilePrincipal}
use Rattle.krb_ccache.specs.Reading.{principal_at, principal_in, typed_at, typed_list_at, credential_from}
use Rattle.krb_ccache.proofs.Headers.{inside_file}

-- the octets that were read, which are read as the same value at any place
pub record Again {A : Type 0} (reader : Reader A) (limit : Option ℕ) (s t : Source) (v : A) : Type 0 where
  pub taken : List ℕ
  pub parts : s.octets ≡ taken ++ t.octets
  pub again : (place : ℕ) (rest : List ℕ) → reader (limited limit) (at place (taken ++ rest)) ≡ Ok (v, at (place + length taken) rest)

pub record Local {A : Type 0} (reader : Reader A) : Type 0 where
  pub local : (limit : Option ℕ) (s t : Source) (v : A) → reader (limited limit) s ≡ Ok (v, t) → Again reader limit s t v

pub Local-then : {A B : Type 0} (reader : Reader A) (next : A → Reader B) → Local reader → ((value : A) → Local (next value)) → Local (reader >>= next)
Local-then {A} {B} reader next first others = record {
  local = λ limit s t v e.
      let a = and_then-ok (reader (limited limit) s) (λ p. next p.0 (limited limit) p.1) (v, t) e in
      let f = first.local limit s a.0.1 a.0.0 a.1 in
      let o = (others a.0.0).local limit a.0.1 t v a.2 in
      record {
        taken = f.taken ++ o.taken;
        parts = f.parts ∙ ap (λ (x : List ℕ). f.taken ++ x) o.parts ∙ sym (append_assoc f.taken o.taken t.octets);
        again = λ place rest.
            ap (λ (x : List ℕ). (reader >>= next) (limited limit) (at place x)) (append_assoc f.taken o.taken rest)
            ∙ ap (λ (r : Result (A × Source) Fault). and_then r (λ p. next p.0 (limited limit) p.1)) (f.again place (o.taken ++ rest))
            ∙ o.again (place + length f.taken) rest
            ∙ ap (λ (k : ℕ). done (v, at k rest)) (omega (arith, length-append f.taken o.taken));
      };
}

pub Local-succeed : {A : Type 0} (value : A) → Local (succeed value)
Local-succeed {A} value = record {
  local = λ limit s t v e.
      let same = ok_is (value, s) (v, t) e in
      let whose : value ≡ v = ap (λ (p : A × Source). p.0) same in
      let rest : s ≡ t = ap (λ (p : A × Source). p.1) same in
      record {
        taken = [];
        parts = ap (λ (x : Source). x.octets) rest;
        again = λ place more. ap (λ (x : A). done (x, at place more)) whose ∙ ap (λ (k : ℕ). done (v, at k more)) (omega arith);
      };
}

-- the same reader, whose faults are of another field
Local-at : {A : Type 0} (other : Option FileField → Option FileField) (reader : Reader A) → Local reader → Local (at_field other reader)
Local-at {A} other reader one = record {
  local = λ limit s t v e.
      let a = one.local limit s t v (refused_at-ok other (reader (limited limit) s) (v, t) e) in
      record { taken = a.taken; parts = a.parts; again = λ place rest. ap (λ (r : Result (A × Source) Fault). refused_at other r) (a.again place rest) };
}

Local-called : {A : Type 0} (name : FieldName) (reader : Reader A) → Local reader → Local (called name reader)
Local-called name reader one = Local-at (with_name name) reader one

-- the same reader, whose faults tell where it begins
Local-one_part : {A : Type 0} (reader : Reader A) → Local reader → Local (one_part reader)
Local-one_part {A} reader one = record {
  local = λ limit s t v e.
      let a = one.local limit s t v (begun_at-ok s.place (reader (limited limit) s) (v, t) e) in
      record { taken = a.taken; parts = a.parts; again = λ place rest. ap (λ (r : Result (A × Source) Fault). begun_at place r) (a.again place rest) };
}

pub Local-in_part : {A : Type 0} (part : FilePart) (reader : Reader A) → Local reader → Local (in_part part reader)
Local-in_part part reader one = Local-one_part (at_field (with_part part) reader) (Local-at (with_part part) reader one)

piece-local : (most : Option ℕ) (size : ℕ) (limit : Option ℕ) (s t : Source) (v : List ℕ) → next_octets_at most size (limited limit) s ≡ Ok (v, t) → Again (λ bounds source. next_octets_at most size bounds source) limit s t v
piece-local most size limit s t v e =
    let p = piece-ok most size (limited limit) s t v e in
    let len : length v ≡ size = ap length p.octets ∙ omega (arith, length-take size s.octets, p.long) in
    record {
      taken = v;
      parts = sym (take-append-drop size s.octets) ∙ ap (λ (x : List ℕ). x ++ drop size s.octets) (sym p.octets) ∙ ap (λ (x : Source). v ++ x.octets) (sym p.source);
      again = λ place rest. subst (λ (k : ℕ). next_octets_at most k (limited limit) (at place (v ++ rest)) ≡ Ok (v, at (place + length v) rest)) len (read place rest (subst (λ (k : ℕ). exceeds k most ≡ false) (sym len) p.under));
    }
  where
    read : (place : ℕ) (rest : List ℕ) → exceeds (length v) most ≡ false → next_octets_at most (length v) (limited limit) (at place (v ++ rest)) ≡ Ok (v, at (place + length v) rest)
    read place rest under =
        let long : ltb (length (v ++ rest)) (length v) ≡ false = le-ltb _ _ (omega (arith, length-append v rest)) in
        rw (under, long, take_at v rest (length v) refl, drop_at v rest (length v) refl)

Local-piece : (size : ℕ) → Local (next_octets_at None size)
Local-piece size = record { local = λ limit s t v e. piece-local None size limit s t v e }

Local-octets : (size : ℕ) → Local (octets_at size)
Local-octets size = record {
  local = λ limit s t v e.
      let a = piece-local limit size limit s t v e in
      record { taken = a.taken; parts = a.parts; again = a.again };
}

-- ---- readers made of these
Local-number : (w : Width) → Local (number_at w)
Local-number w = Local-then (next_octets_at None (byte_len w)) _ (Local-piece (byte_len w)) (λ octets. Local-succeed (from_be_bytes w octets))

Local-signed : (w : Width) → Local (signed_at w)
Local-signed w = Local-then (number_at w) _ (Local-number w) (λ n. Local-succeed (cast_signed w n))

Local-counted : (w : Width) → Local (counted_at w)
Local-counted w = Local-then (number_at w) octets_at (Local-number w) Local-octets

Local-times : {A : Type 0} (item_at : ℕ → Reader A) → ((index : ℕ) → Local (item_at index)) → (n : ℕ) → Local (times n item_at)
Local-times item_at one zero = Local-succeed []
Local-times item_at one (suc n) =
    Local-then (item_at 0) _ (one 0) (λ first.
    Local-then (times n (λ index. item_at (suc index))) _ (Local-times (λ index. item_at (suc index)) (λ index. one (suc index)) n) (λ others. Local-succeed (first ∷ others)))

Local-names : (w : Width) → Local (names_at w)
Local-names w =
    Local-then (called field.ComponentCount (number_at w)) _ (Local-called field.ComponentCount (number_at w) (Local-number w)) (λ count.
    Local-then (called field.Realm (counted_at w)) _ (Local-called field.Realm (counted_at w) (Local-counted w)) (λ realm.
    Local-then (times count (component_at w)) _ (Local-times (component_at w) (λ index. Local-called (field.Component index) (counted_at w) (Local-counted w)) count) (λ components. Local-succeed (record { realm = realm; components = components }))))

Local-principal : Local principal_at
Local-principal = Local-then (called field.NameType (signed_at w32)) _ (Local-called field.NameType (signed_at w32) (Local-signed w32)) (λ name_type. Local-then (names_at w32) _ (Local-names w32) (λ names. Local-succeed (record { name_type = name_type; realm = names.realm; components = names.components })))

pub Local-principal_in : (part : FilePart) → Local (principal_in part)
Local-principal_in part = Local-in_part part principal_at Local-principal

Local-typed : Local typed_at
Local-typed = Local-then (called field.Type (number_at w16)) _ (Local-called field.Type (number_at w16) (Local-number w16)) (λ kind. Local-then (called field.Octets (counted_at w32)) _ (Local-called field.Octets (counted_at w32) (Local-counted w32)) (λ octets. Local-succeed (record { kind = kind; octets = octets })))

Local-typed_list : (name : FieldName) (part : ℕ → FilePart) → Local (typed_list_at name part)
Local-typed_list name part =
    Local-then (called name (number_at w32)) _ (Local-called name (number_at w32) (Local-number w32)) (λ count.
    Local-times (λ index. in_part (part index) typed_at) (λ index. Local-in_part (part index) typed_at Local-typed) count)

pub Local-enctype : Local (called field.Enctype (number_at w16))
Local-enctype = Local-called field.Enctype (number_at w16) (Local-number w16)

pub Local-from_key : (client server : FilePrincipal) (enctype : ℕ) → Local (credential_from client server enctype)
Local-from_key client server enctype =
    Local-then (called field.Key (counted_at w32)) _ (Local-called field.Key (counted_at w32) (Local-counted w32)) (λ key.
    Local-then (called field.AuthTime (number_at w32)) _ (Local-called field.AuthTime (number_at w32) (Local-number w32)) (λ authtime.
    Local-then (called field.StartTime (number_at w32)) _ (Local-called field.StartTime (number_at w32) (Local-number w32)) (λ starttime.
    Local-then (called field.EndTime (number_at w32)) _ (Local-called field.EndTime (number_at w32) (Local-number w32)) (λ endtime.
    Local-then (called field.RenewTill (number_at w32)) _ (Local-called field.RenewTill (number_at w32) (Local-number w32)) (λ renew_till.
    Local-then (called field.IsSkey (number_at w8)) _ (Local-called field.IsSkey (number_at w8) (Local-number w8)) (λ is_skey.
    Local-then (called field.TicketFlags (number_at w32)) _ (Local-called field.TicketFlags (number_at w32) (Local-number w32)) (λ flags.
    Local-then (typed_list_at field.AddressCount parts.Address) _ (Local-typed_list field.AddressCount parts.Address) (λ addresses.
    Local-then (typed_list_at field.AuthdataCount parts.Authdata) _ (Local-typed_list field.AuthdataCount parts.Authdata) (λ authdata.
    Local-then (called field.Ticket (counted_at w32)) _ (Local-called field.Ticket (counted_at w32) (Local-counted w32)) (λ ticket.
    Local-then (called field.SecondTicket (counted_at w32)) _ (Local-called field.SecondTicket (counted_at w32) (Local-counted w32)) (λ second_ticket.
    Local-succeed (record { client = client; server = server; enctype = enctype; key = key; authtime = authtime; starttime = starttime; endtime = endtime; renew_till = renew_till; is_skey = is_skey; flags = flags; addresses = addresses; authdata = authdata; ticket = ticket; second_ticket = second_ticket }))))))))))))

-- ---- a value that was read is read from its spelling
abbrev pub IsReadAgain : {A : Type 0} → Reader A → (A → List ℕ) → Option ℕ → A → Type 0
IsReadAgain reader spell limit v = (place : ℕ) (rest : List ℕ) → reader (limited limit) (at place (spell v ++ rest)) ≡ Ok (v, at (place + length (spell v)) rest)

pub read-again : {A : Type 0} (reader : Reader A) (spell : A → List ℕ) (Fits : A → Type 0) → Reads reader spell Fits → Local reader → (limit : Option ℕ) (s t : Source) (v : A) → AreOctets s.octets → reader (limited limit) s ≡ Ok (v, t) → IsReadAgain reader spell limit v
read-again reader spell Fits laws local limit s t v fits e =
    let a = local.local limit s t v e in
    let p = laws.sound (limited limit) s t v fits (inside_file limit s.place) e in
    let same : a.taken ≡ spell v = append_cancel_right a.taken (spell v) t.octets (sym a.parts ∙ p.0.parts) in
    subst (λ (x : List ℕ). (place : ℕ) (rest : List ℕ) → reader (limited limit) (at place (x ++ rest)) ≡ Ok (v, at (place + length x) rest)) same a.again
