-- A credential whose fields are read in groups, and one after another.
use Rattle.std.proofs.Common.{◌≡◌, ℕ, Result, Ok, Err, List, refl, sym, ◌∙◌, ap, subst}
use Rattle.std.specs.Int.{w8, w32}
use Rattle.krb_file.specs.Fields.{Source, Fault, Bounds, Reader, and_then, ◌>>=◌, succeed, called, number_at, counted_at}
use Rattle.krb_file.specs.FieldReaders.{Cursor, HasRead, FailsBy, source_at}
use Rattle.krb_file.specs.declared.fault.FileFault.{FileFault}
use Rattle.krb_file.specs.declared.fault.FileFault.TheVariants as faults
use Rattle.krb_file.specs.declared.field_name.FieldName.TheVariants as field
use Rattle.krb_file.specs.declared.field_name.FilePart.TheVariants as parts
use Rattle.krb_ccache.specs.declared.reading.Contents.{Contents}
use Rattle.krb_ccache.specs.declared.reading.Validity.{Validity}
use Rattle.krb_ccache.specs.declared.value.Credential.{Credential}
use Rattle.krb_ccache.specs.declared.value.FilePrincipal.{FilePrincipal}
use Rattle.krb_ccache.specs.Reading.{typed_list_at, validity_at, contents_at, credential_from}

-- they read the same of any octets
pub record Same {A : Type 0} (one two : Reader A) : Type 0 where
  pub same : (bounds : Bounds) (source : Source) → one bounds source ≡ two bounds source

and_then-twice : {A B C : Type 0} (r : Result A Fault) (f : A → Result B Fault) (g : B → Result C Fault) → and_then (and_then r f) g ≡ and_then r (λ a. and_then (f a) g)
and_then-twice (Ok value) f g = refl
and_then-twice (Err fault) f g = refl

and_then-same : {A B : Type 0} (r : Result A Fault) (f g : A → Result B Fault) → ((a : A) → f a ≡ g a) → and_then r f ≡ and_then r g
and_then-same (Ok value) f g same = same value
and_then-same (Err fault) f g same = refl

Same-alike : {A : Type 0} (reader : Reader A) → Same reader reader
Same-alike reader = record { same = λ bounds source. refl }

Same-then : {A B : Type 0} (first : Reader A) (one two : A → Reader B) → ((value : A) → Same (one value) (two value)) → Same (first >>= one) (first >>= two)
Same-then first one two others = record {
  same = λ bounds source. and_then-same (first bounds source) (λ p. one p.0 bounds p.1) (λ p. two p.0 bounds p.1) (λ p. (others p.0).same bounds p.1);
}

-- a reader that begins with a group, and one that begins with the first reader of the group
Same-group : {A B C : Type 0} (first : Reader A) (next : A → Reader B) (last : B → Reader C) (others : A → Reader C) → ((value : A) → Same (next value >>= last) (others value)) → Same ((first >>= next) >>= last) (first >>= others)
Same-group first next last others same_after = record {
  same = λ bounds source.
      and_then-twice (first bounds source) (λ p. next p.0 bounds p.1) (λ q. last q.0 bounds q.1)
      ∙ and_then-same (first bounds source) (λ p. (next p.0 >>= last) bounds p.1) (λ p. others p.0 bounds p.1) (λ p. (same_after p.0).same bounds p.1);
}

pub read_same : {A : Type 0} {one two : Reader A} {v : A} {old new : Cursor} → Same one two → HasRead one v old new → HasRead two v old new
read_same {A} {one} {two} {v} {old} {new} same read = record {
  same_bounds = read.same_bounds;
  from = λ rest there. let a = read.from rest there in (a.0, a.1, sym (same.same old.bounds (source_at old.place a.0)) ∙ a.2);
}

pub fails_same : {A : Type 0} {one two : Reader A} (e : FileFault) (MayFail : Type 0) (old : Cursor) → Same one two → FailsBy e one MayFail old → FailsBy e two MayFail old
fails_same faults.Memory MayFail old same fails = tt
fails_same faults.Read MayFail old same fails = fails
fails_same (faults.Refused fault) MayFail old same fails = record {
  octets = fails.octets;
  there = fails.there;
  refused = sym (same.same old.bounds (source_at old.place fails.octets)) ∙ fails.refused;
}

pub fails_first : {A B : Type 0} (first : Reader A) (next : A → Reader B) (e : FileFault) (MayFail : Type 0) (old : Cursor) → FailsBy e first MayFail old → FailsBy e (first >>= next) MayFail old
fails_first first next faults.Memory MayFail old fails = tt
fails_first first next faults.Read MayFail old fails = fails
fails_first {A} {B} first next (faults.Refused fault) MayFail old fails = record {
  octets = fails.octets;
  there = fails.there;
  refused = ap (λ (r : Result (A × Source) Fault). and_then r (λ p. next p.0 old.bounds p.1)) fails.refused;
}

pub fails_from : {A : Type 0} (reader : Reader A) (e : FileFault) (MayFail : Type 0) {here old : Cursor} → here ≡ old → FailsBy e reader MayFail here → FailsBy e reader MayFail old
fails_from reader e MayFail same fails = subst (λ (h : Cursor). FailsBy e reader MayFail h) same fails

-- ---- a credential from its key on
module _ (client server : FilePrincipal) (enctype : ℕ) where
  abbrev credential_of : List ℕ → Validity → Contents → Credential
  credential_of key validity contents = record { client = client; server = server; enctype = enctype; key = key; authtime = validity.authtime; starttime = validity.starttime; endtime = validity.endtime; renew_till = validity.renew_till; is_skey = validity.is_skey; flags = validity.flags; addresses = contents.addresses; authdata = contents.authdata; ticket = contents.ticket; second_ticket = contents.second_ticket }

  abbrev pub after_validity : List ℕ → Validity → Reader Credential
  after_validity key validity = contents_at >>= λ contents. succeed (credential_of key validity contents)

  abbrev pub after_key : List ℕ → Reader Credential
  after_key key = validity_at >>= after_validity key

  abbrev pub grouped : Reader Credential
  grouped = called field.Key (counted_at w32) >>= after_key

  pub Same-grouped : Same grouped (credential_from client server enctype)
  Same-grouped =
      Same-then (called field.Key (counted_at w32)) _ _ (λ key.
      Same-group (called field.AuthTime (number_at w32)) _ (after_validity key) _ (λ authtime.
      Same-group (called field.StartTime (number_at w32)) _ (after_validity key) _ (λ starttime.
      Same-group (called field.EndTime (number_at w32)) _ (after_validity key) _ (λ endtime.
      Same-group (called field.RenewTill (number_at w32)) _ (after_validity key) _ (λ renew_till.
      Same-group (called field.IsSkey (number_at w8)) _ (after_validity key) _ (λ is_skey.
      Same-group (called field.TicketFlags (number_at w32)) _ (after_validity key) _ (λ flags.
      let validity : Validity = record { authtime = authtime; starttime = starttime; endtime = endtime; renew_till = renew_till; is_skey = is_skey; flags = flags } in
      let last : Contents → Reader Credential = λ contents. succeed (credential_of key validity contents) in
      Same-group (typed_list_at field.AddressCount parts.Address) _ last _ (λ addresses.
      Same-group (typed_list_at field.AuthdataCount parts.Authdata) _ last _ (λ authdata.
      Same-group (called field.Ticket (counted_at w32)) _ last _ (λ ticket.
      Same-group (called field.SecondTicket (counted_at w32)) _ last _ (λ second_ticket.
      Same-alike _)))))))))))
