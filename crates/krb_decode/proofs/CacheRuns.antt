-- What is decoded of a credential cache, one credential after another.
use Rattle.std.proofs.Common.{◌≡◌, ◌==◌, ℕ, ◌+◌, ◌<◌, Bool, true, false, List, [], ◌∷◌, ◌++◌, length, drop, codes, decimal, Option, None, Some, Result, Ok, Err, OnOk, IfOk, refl, sym, ◌∙◌, ap, subst, arith, append-nil, append_assoc, length-append, drop_of_length-le, drop_at}
use Rattle.std.specs.Io.KnownBytes.{Appends}
use Rattle.std.proofs.lemmas.Bool.{eqb-true, lt-ltb}
use Rattle.std.proofs.lemmas.List.{nil_from_length}
use Rattle.std.proofs.KnownBytes.{Appends-nil, Appends-trans}
use Rattle.krb_ccache.specs.Reading.{CacheItems}
use Rattle.krb_ccache.specs.Spelling.{is_config}
use Rattle.krb_ccache.specs.Streaming.{FailsStart, Reads, credentials}
use Rattle.krb_ccache.specs.declared.reading.Start.{Start}
use Rattle.krb_ccache.specs.declared.value.Credential.{Credential}
use Rattle.krb_der.specs.Octets.{when}
use Rattle.krb_der.specs.declared.profile.Profile.TheVariants as profile
use Rattle.krb_der.specs.declared.verdict.Refusal.{Refusal}
use Rattle.krb_file.specs.FieldReaders.{Cursor}
use Rattle.krb_file.specs.Fields.{Fault, Source}
use Rattle.krb_file.specs.Items.{EndsBy, FailsAfter, IsItem}
use Rattle.krb_file.specs.declared.fault.FileFault.{FileFault}
use Rattle.krb_file.specs.declared.fault.FileFault.TheVariants as faults
use Rattle.krb_file.specs.declared.field_path.FileItem.TheVariants as item
use Rattle.krb_file.specs.declared.progress.Progress.{Progress}
use Rattle.krb_judge.specs.Parses.{ticket_refusal}
use Rattle.krb_msg.specs.declared.ticket.Ticket.{Ticket}
use Rattle.krb_record.specs.Labels.{Label, no_label}
use Rattle.krb_record.specs.declared.form.Form.TheVariants as form
use Rattle.krb_run.specs.Records.{AddsRefusal, AppendsPrefix}
use Rattle.krb_run.specs.declared.run.RunEnd.{RunEnd}
use Rattle.krb_run.specs.declared.run.RunFault.{RunFault}
use Rattle.krb_tool.specs.Messages.{ticket_of_der}
use Rattle.krb_tool.specs.Paths.{ticket_refused_path}
use Rattle.krb_decode.specs.Caches.{cache_decoded, credential_opening, credentials_decoded, decoded_cache, decoded_credential, decoded_credentials, decoded_field, field_limit, judged_field, refused_field, said_last}
use Rattle.krb_decode.specs.Decoded.{Added, Decoded, accepted, both, decoded_ticket, end_of, nothing, said}
use Rattle.krb_decode.specs.Runs.{DecodesCache}
use Rattle.krb_decode.specs.inner.Adding.{Adds}
use Rattle.krb_decode.specs.declared.parts.Parts.{Parts}
use Rattle.krb_decode.proofs.Findings.{adds-as, adds-nothing, both-assoc, both-nothing}

-- ---- a ticket field
pub no-octet : (octets : List ℕ) (empty : Bool) → empty ≡ (length octets == 0) → empty ≡ true → octets ≡ []
no-octet octets empty is holds = nil_from_length octets (eqb-true (length octets) 0 (sym is ∙ holds))

pub some-octet : (octets : List ℕ) (empty : Bool) → empty ≡ (length octets == 0) → empty ≡ false → octets ≡ [] → ⊥
some-octet octets empty is other none = let bad : true ≡ false = sym (is ∙ ap (λ (o : List ℕ). length o == 0) none) ∙ other in cc

field-judged : (origin octets : List ℕ) → (octets ≡ [] → ⊥) → judged_field origin octets (ticket_refusal profile.Lenient octets) ≡ decoded_field origin octets
field-judged origin [] some = absurd (some refl)
field-judged origin (octet ∷ octets) some = refl

pub field-ticket : {T E : Type 0} (r : Result T E) (origin octets : List ℕ) (t : Ticket) (old new : Parts) → (octets ≡ [] → ⊥) → ticket_refusal profile.Lenient octets ≡ None → t ≡ ticket_of_der octets
    → OnOk r (Adds (decoded_ticket origin (codes "Ticket.enc-part") t) old new) → OnOk r (Adds (decoded_field origin octets) old new)
field-ticket r origin octets t old new some none is adds =
    adds-as r (decoded_ticket origin (codes "Ticket.enc-part") t) (decoded_field origin octets) old new
    (ap (decoded_ticket origin (codes "Ticket.enc-part")) is ∙ ap (judged_field origin octets) (sym none) ∙ field-judged origin octets some)
    adds

pub field-refused : {T E : Type 0} (r : Result T E) (origin octets : List ℕ) (refusal : Refusal) (old new : Parts) → (octets ≡ [] → ⊥) → ticket_refusal profile.Lenient octets ≡ Some refusal
    → OnOk r (Adds (said (refused_field origin octets refusal)) old new) → OnOk r (Adds (decoded_field origin octets) old new)
field-refused r origin octets refusal old new some is adds =
    adds-as r (said (refused_field origin octets refusal)) (decoded_field origin octets) old new (ap (judged_field origin octets) (sym is) ∙ field-judged origin octets some) adds

-- octets that are too many for a Ticket have no path
pub long-ticket-path : (octets : List ℕ) (refusal : Refusal) → 2147483647 < length octets → None ≡ ticket_refused_path profile.Lenient octets refusal
unfolding ticket_refused_path
long-ticket-path octets refusal long = rw (lt-ltb 2147483647 (length octets) long) refl

-- the path of a ticket field
pub opening-text : (index : ℕ) → codes "credential[" ++ (decimal index ++ codes "].ticket: ") ≡ credential_opening index
opening-text index = ap (λ l. codes "credential[" ++ l) (sym (append_assoc (decimal index) (codes "]") (codes ".ticket: ")))

-- a configuration entry has none
pub config-passed : (index : ℕ) (c : Credential) (parts : Parts) → is_config c ≡ true → Adds (decoded_credential index c) parts parts
unfolding decoded_credential
config-passed index c parts is = subst (λ (b : Bool). Adds (when b (λ _. nothing) (λ _. decoded_field (credential_opening index) c.ticket)) parts parts) (sym is) (adds-nothing parts)

pub field-of : (index : ℕ) (c : Credential) → is_config c ≡ false → decoded_field (credential_opening index) c.ticket ≡ decoded_credential index c
unfolding decoded_credential
field-of index c is = sym (ap (λ (b : Bool). when b (λ _. nothing) (λ _. decoded_field (credential_opening index) c.ticket)) is)

-- ---- credentials, one after another
-- The first ones are decoded: their lines are written, and what is said of them is kept.
pub record AreDecoded (all : CacheItems Credential) (index : ℕ) (written_before written_after : Option (List ℕ)) (parts : Parts) : Type 0 where
  pub added : Added
  pub written : Appends written_before written_after added.lines
  pub unwritten : parts.lines.items ≡ []
  pub kept : parts.said ≡ added.said
  pub whole : decoded_credentials 0 all.items ≡ both added (decoded_credentials index (drop index all.items))

pub none-decoded : (all : CacheItems Credential) (written : Option (List ℕ)) (parts : Parts) → parts.lines.items ≡ [] → parts.said ≡ [] → AreDecoded all 0 written written parts
none-decoded all written parts lines kept = record { added = nothing; written = Appends-nil written; unwritten = lines; kept = kept; whole = refl }

after-item : (all : CacheItems Credential) (index : ℕ) (c : Credential) → IsItem all index c → drop index all.items ≡ c ∷ drop (index + 1) all.items
after-item all index c is =
    let here : drop index all.items ≡ c ∷ is.suffix = ap (drop index) is.parts ∙ drop_at is.prefix (c ∷ is.suffix) index is.counted in
    let there : drop (index + 1) all.items ≡ is.suffix = ap (drop (index + 1)) (is.parts ∙ sym (append_assoc is.prefix (c ∷ []) is.suffix)) ∙ drop_at (is.prefix ++ c ∷ []) is.suffix (index + 1) (omega (arith, is.counted, length-append is.prefix (c ∷ []))) in
    here ∙ ap (λ (cs : List Credential). c ∷ cs) (sym there)

module _ (all : CacheItems Credential) (index : ℕ) (before now : Option (List ℕ)) (parts : Parts) (d : AreDecoded all index before now parts) where
  -- all lines, with those of the credentials that are left
  abbrev left : List ℕ
  left = (decoded_credentials index (drop index all.items)).lines ++ []

  all-lines : (credentials_decoded all).lines ≡ d.added.lines ++ left
  all-lines = ap (λ (a : Added). a.lines ++ []) d.whole ∙ append_assoc d.added.lines (decoded_credentials index (drop index all.items)).lines []

  pub decoded-some : (failed : RunFault) (text : List ℕ) → DecodesCache (credentials_decoded all) before now text (Err failed)
  decoded-some failed text = record { prefix = d.added.lines; rest = left; added = d.written; whole = all-lines }

  pub decoded-all : (end : Result ℕ Fault) → EndsBy all index end → (text : List ℕ) → text ≡ parts.said ++ said_last index end → (ended : RunEnd) → ended ≡ end_of text → DecodesCache (credentials_decoded all) before now text (Ok ended)
  decoded-all end ends text is ended ended_so =
      let none : decoded_credentials 0 all.items ≡ d.added = d.whole ∙ ap (λ (cs : List Credential). both d.added (decoded_credentials index cs)) (drop_of_length-le all.items {i = index} (omega (arith, ends.counted))) ∙ both-nothing d.added in
      let same : credentials_decoded all ≡ accepted (both d.added (said (said_last index end))) = λ i. accepted (both (none i) (said (said_last (ends.counted i) (ends.is i)))) in
      let said_so : text ≡ d.added.said ++ said_last index end = is ∙ ap (λ t. t ++ said_last index end) d.kept in
      subst (λ (whole : Decoded). DecodesCache whole before now text (Ok ended)) (sym same) (subst (Appends before now) (sym (append-nil d.added.lines)) d.written, said_so, ended_so ∙ ap end_of said_so)

  -- the next one
  module _ (c : Credential) (is : IsItem all index c) (put : Parts) (adds : Adds (decoded_credential index c) parts put) where
    lines-put : put.lines.items ≡ (decoded_credential index c).lines
    lines-put = adds.lines ∙ ap (λ (l : List ℕ). l ++ (decoded_credential index c).lines) d.unwritten

    with-next : decoded_credentials 0 all.items ≡ both (both d.added (decoded_credential index c)) (decoded_credentials (index + 1) (drop (index + 1) all.items))
    with-next =
        d.whole
        ∙ ap (λ (cs : List Credential). both d.added (decoded_credentials index cs)) (after-item all index c is)
        ∙ sym (both-assoc d.added (decoded_credential index c) (decoded_credentials (index + 1) (drop (index + 1) all.items)))

    pub next-decoded : (after : Option (List ℕ)) (new : Parts) → Appends now after put.lines.items → new.lines.items ≡ [] → new.said ≡ put.said → AreDecoded all (index + 1) before after new
    next-decoded after new written none same = record {
      added = both d.added (decoded_credential index c);
      written = Appends-trans before now after d.added.lines (decoded_credential index c).lines d.written (subst (Appends now after) lines-put written);
      unwritten = none;
      kept = same ∙ adds.said ∙ ap (λ (t : List ℕ). t ++ (decoded_credential index c).said) d.kept;
      whole = with-next;
    }

    -- a write of its line failed
    pub next-unwritten : (after : Option (List ℕ)) (failed : RunFault) (text : List ℕ) → AppendsPrefix now after put.lines.items → DecodesCache (credentials_decoded all) before after text (Err failed)
    next-unwritten after failed text p =
        let rest = (decoded_credentials (index + 1) (drop (index + 1) all.items)).lines ++ [] in
        record {
          prefix = d.added.lines ++ p.prefix;
          rest = p.rest ++ rest;
          added = Appends-trans before now after d.added.lines p.prefix d.written p.added;
          whole =
              ap (λ (a : Added). a.lines ++ []) with-next
              ∙ append_assoc (d.added.lines ++ (decoded_credential index c).lines) (decoded_credentials (index + 1) (drop (index + 1) all.items)).lines []
              ∙ ap (λ (l : List ℕ). (d.added.lines ++ l) ++ rest) (sym lines-put ∙ p.whole)
              ∙ ap (λ (l : List ℕ). l ++ rest) (sym (append_assoc d.added.lines p.prefix p.rest))
              ∙ append_assoc (d.added.lines ++ p.prefix) p.rest rest;
        }

  -- a refusal after them
  pub refused-after : (label : Label) → label ≡ no_label form.NamedLines → (e : FileFault) → FailsAfter (λ f. Err f) all index e → (text : List ℕ) (ended_as : RunEnd) → AddsRefusal (item.Credential index) label e parts.said text ended_as → (ended : RunEnd) → ended ≡ end_of text
      → DecodesCache (credentials_decoded all) before now text (Ok ended)
  refused-after label none faults.Read fails text ended_as adds ended ended_so = absurd adds
  refused-after label none faults.Memory fails text ended_as adds ended ended_so = absurd adds
  refused-after label none (faults.Refused f) fails text ended_as adds ended ended_so =
      decoded-all (Err f) fails text (subst (λ (l : Label). AddsRefusal (item.Credential index) l (faults.Refused f) parts.said text ended_as) none adds).1 ended ended_so

-- ---- a cache
pub begun : (file : List ℕ) (cursor : Cursor) (start : Start) (state : Progress (Unit {0}) (Unit {0})) → Reads field_limit cursor start state file 0 → credentials_decoded (credentials field_limit file) ≡ decoded_cache file
unfolding decoded_cache
begun file cursor start state reads = ap (λ (r : Result (Start × Source) Fault). cache_decoded r (credentials field_limit file)) (sym reads.begins)

-- one that is refused before its credentials
pub refused-first : (file : List ℕ) (label : Label) → label ≡ no_label form.NamedLines → (e : FileFault) → FailsStart field_limit file e → (old text : List ℕ) → old ≡ [] → (ended : RunEnd) → AddsRefusal item.File label e old text ended → (written : Option (List ℕ)) → DecodesCache (decoded_cache file) written written text (Ok ended)
unfolding decoded_cache
refused-first file label none faults.Read fails old text empty ended adds written = absurd adds
refused-first file label none faults.Memory fails old text empty ended adds written = absurd adds
refused-first file label none (faults.Refused f) fails old text empty ended adds written =
    let listed = subst (λ (l : Label). AddsRefusal item.File l (faults.Refused f) [] text ended) none (subst (λ (o : List ℕ). AddsRefusal item.File label (faults.Refused f) o text ended) empty adds) in
    subst (λ (r : Result (Start × Source) Fault). DecodesCache (cache_decoded r (credentials field_limit file)) written written text (Ok ended)) (sym fails) (Appends-nil written, listed.1, listed.0)

-- nothing was written
pub nothing-decoded : (whole : Decoded) (written : Option (List ℕ)) (text : List ℕ) (failed : RunFault) → DecodesCache whole written written text (Err failed)
nothing-decoded whole written text failed = record { prefix = []; rest = whole.lines; added = Appends-nil written; whole = refl }

-- a start that fails
pub unstarted : (file : List ℕ) (label : Label) → label ≡ no_label form.NamedLines → (e : FileFault) → FailsStart field_limit file e → (old text : List ℕ) → old ≡ [] → (r : Result RunEnd RunFault) → IfOk r (AddsRefusal item.File label e old text) → (written : Option (List ℕ)) → DecodesCache (decoded_cache file) written written text r
unstarted file label none e fails old text empty (Ok ended) adds written = refused-first file label none e fails old text empty ended adds written
unstarted file label none e fails old text empty (Err failed) adds written = nothing-decoded (decoded_cache file) written text failed
