-- What is printed of keytabs and of caches is JSON.
use Rattle.std.proofs.Common.{◌≡◌, ℕ, ℤ, pos, negsuc, ◌^◌, ◌<◌, ◌≤◌, ◌==◌, ◌&&◌, nat_le, nat_lt, Bool, true, false, List, [], ◌∷◌, ◌++◌, length, length-append, take, drop, Option, Some, None, if◌then◌else◌, codes, refl, sym, ◌∙◌, ap, subst, arith}
use Rattle.std.specs.Int.{w8, w16, w32, to_be_bytes, from_be_bytes, cast_signed}
use Rattle.std.specs.Int.RustNames.{FitsSigned}
use Rattle.std.specs.List.{AllByRecursion}
use mir.ValLaws.{to_z-Fits}
use Rattle.krb_der.specs.Octets.{AreOctets, when}
use Rattle.krb_der.specs.declared.profile.Profile.TheVariants as profiles
use Rattle.krb_der.specs.declared.verdict.Refusal.{Refusal}
use Rattle.krb_der.specs.inner.Numbers.{AreOctets-take, AreOctets-drop}
use Rattle.krb_file.specs.Fields.{counted, names, signed}
use Rattle.krb_file.proofs.Fields.{wide32}
use Rattle.krb_judge.specs.Laws.{RefusalsAreInside}
use Rattle.krb_judge.specs.Parses.{ticket_refusal}
use Rattle.krb_judge.proofs.Slices.{whole_value}
use Rattle.krb_msg.specs.Grammar.{ticket}
use Rattle.krb_msg.specs.Term.{Value, der}
use Rattle.krb_msg.specs.Types.{ticket_of}
use Rattle.krb_msg.specs.ValueOfDer.{value_of_der}
use Rattle.krb_msg.specs.declared.ticket.Ticket.{Ticket}
use Rattle.krb_msg.proofs.ValueOfDer.{value_of_der_is_value}
use Rattle.krb_ccache.specs.Spelling.{CredentialFits, HeaderFieldFits, HeaderFits, PrincipalFits, header_field, header_fields, is_config, offset_of}
use Rattle.krb_ccache.specs.Tickets.{field_state, judged_state, state_of, ticket_read}
use Rattle.krb_ccache.specs.declared.ticket.TicketState.TheVariants as states
use Rattle.krb_ccache.specs.declared.value.Credential.{Credential}
use Rattle.krb_ccache.specs.declared.value.FilePrincipal.{FilePrincipal}
use Rattle.krb_ccache.specs.declared.value.Header.{Header}
use Rattle.krb_ccache.specs.declared.value.HeaderField.{HeaderField}
use Rattle.krb_keytab.specs.Spelling.{EntryFits, kvno, names_of}
use Rattle.krb_keytab.specs.declared.value.Entry.{Entry}
use Rattle.krb_keytab.specs.declared.value.Record.{Record}
use Rattle.krb_keytab.specs.declared.value.Record.TheVariants as records
use Rattle.krb_keytab.specs.declared.value.Stop.{Stop}
use Rattle.krb_keytab.specs.declared.value.Stop.TheVariants as stops
use Rattle.krb_list.specs.Ccaches.{cache_end, cache_record, config_record, credential_record, offset_value, state, state_record, ticket_server, ticketed_record}
use Rattle.krb_list.specs.Configs.{config_value, is_shown}
use Rattle.krb_list.specs.Keytabs.{entry_fields, keytab_end, printed_record}
use Rattle.krb_record.specs.Time.{file_time, moment_text}
use Rattle.krb_text.specs.MessageValues.{encrypted}
use Rattle.krb_record.specs.Values.{Absent, NoTicket, Quoted, RefusedTicket, Value as Shown, Word, if_there}
use Rattle.krb_record.specs.declared.form.Form.TheVariants as forms
use Rattle.krb_record.proofs.Printable.{word}
use Rattle.krb_record.proofs.Times.{moment}
use Rattle.krb_text_laws.proofs.Tuples.{◌&◌}
use Rattle.krb_laws.specs.JsonFiles.{FilesAreJson, IsRecord}
use Rattle.krb_laws.specs.JsonLaws.{IsSmall, PrintsJson, ValueFits}
use Rattle.krb_laws.proofs.JsonEnds.{alone}
use Rattle.krb_laws.proofs.JsonNumbers.{its_encrypted}
use Rattle.krb_laws.proofs.JsonSizes.{IsBrief, brief}

-- ---- numbers
small : (z : ℤ) → FitsSigned w32 z → IsSmall z
small (pos n) h = omega (arith, h.sfits)
small (negsuc n) h = omega (arith, h.sfits)

signed_word : (octets : List ℕ) → AreOctets octets → IsSmall (cast_signed w32 (from_be_bytes w32 octets))
signed_word octets a = small (cast_signed w32 (from_be_bytes w32 octets)) (to_z-Fits w32 (from_be_bytes w32 octets) (record { fits = wide32.below octets a }))

its_time : (seconds : ℕ) → seconds < 2 ^ 32 → ValueFits (file_time seconds)
its_time seconds h = by (seconds == 0)
  where
    by : (is_zero : Bool) → ValueFits (if is_zero then Absent else Word (moment_text seconds))
    by true = tt
    by false = (moment seconds h).all

-- ---- keytabs
its_kvno : (e : Entry) → EntryFits e → kvno e < 10 ^ 64
its_kvno e h = by (nat_le 4 (length e.rest) && nat_lt 0 (from_be_bytes w32 (take 4 e.rest)))
  where
    by : (wide : Bool) → when wide (λ _. from_be_bytes w32 (take 4 e.rest)) (λ _. e.vno8) < 10 ^ 64
    by true = omega (arith, wide32.below (take 4 e.rest) (AreOctets-take 4 e.rest h.rest))
    by false = omega (arith, h.vno8)

-- what follows the key is no longer than the entry
its_rest : (e : Entry) → EntryFits e → length e.rest < 10 ^ 64
its_rest e h =
    let before : List ℕ = names w16 (names_of e) ++ signed w32 e.name_type ++ to_be_bytes w32 e.time ++ to_be_bytes w8 e.vno8 ++ to_be_bytes w16 e.enctype ++ counted w16 e.key in
    omega (arith, length-append before e.rest, h.short)

of_record : (r : Record) → IsRecord r → PrintsJson (printed_record r)
unfolding printed_record
of_record (records.Entry e) h =
    alone (codes "entry") (entry_fields e) refl refl refl
    (small e.name_type h.name_type & small e.name_type h.name_type & its_time e.time h.time & its_kvno e h & omega (arith, h.enctype) & omega (arith, h.key.short) & its_rest e h & tt)
of_record (records.Hole hole) h = alone (codes "hole") (printed_record (records.Hole hole)).fields refl refl refl (omega (arith, h.1) & tt & tt)

end_of_keytab : (count : ℕ) (stop : Stop) → count < 10 ^ 64 → PrintsJson (keytab_end count stop)
unfolding keytab_end
end_of_keytab count stops.File h = alone (codes "end") (keytab_end count stops.File).fields refl refl refl (h & tt & tt)
end_of_keytab count stops.Zero h = alone (codes "end") (keytab_end count stops.Zero).fields refl refl refl (h & tt & tt)

-- ---- caches
its_offset : (fields : List HeaderField) → AllByRecursion HeaderFieldFits fields → ValueFits (if_there offset_value (offset_of fields))
its_offset [] h = tt
its_offset (f ∷ fields) h = by ((f.tag == 1) && (length f.value == 8)) (its_offset fields h.1)
  where
    by : (is : Bool) → ValueFits (if_there offset_value (offset_of fields)) → ValueFits (if_there offset_value (when is (λ _. Some (cast_signed w32 (from_be_bytes w32 (take 4 f.value)), cast_signed w32 (from_be_bytes w32 (drop 4 f.value)))) (λ _. offset_of fields)))
    by true others = (signed_word (take 4 f.value) (AreOctets-take 4 f.value h.0.value.are_octets), signed_word (drop 4 f.value) (AreOctets-drop 4 f.value h.0.value.are_octets))
    by false others = others

few_fields : (fields : List HeaderField) → length fields ≤ length (header_fields fields)
few_fields [] = omega arith
few_fields (f ∷ fields) = omega (arith, length-append (header_field f) (header_fields fields), length-append (to_be_bytes w16 f.tag) (counted w16 f.value), few_fields fields)

cache : (header : Header) (principal : FilePrincipal) → HeaderFits header → PrincipalFits principal → PrintsJson (cache_record header principal)
unfolding cache_record
cache header principal h p =
    alone (codes "cache") (cache_record header principal).fields refl refl refl
    (small principal.name_type p.name_type & small principal.name_type p.name_type & its_offset header.fields h.each & omega (arith, few_fields header.fields, h.short) & tt)

end_of_cache : (count : ℕ) → count < 10 ^ 64 → PrintsJson (cache_end count)
unfolding cache_end
end_of_cache count h = alone (codes "end") (cache_end count).fields refl refl refl (h & tt)

-- ---- credentials
its_state : (now : Option ℕ) (endtime : ℕ) → ValueFits (state now endtime)
its_state None endtime = tt
its_state (Some now) endtime = by (nat_lt now endtime)
  where
    by : (is_live : Bool) → ValueFits (if is_live then Word (codes "live") else Word (codes "expired"))
    by true = (word (codes "live") refl).all
    by false = (word (codes "expired") refl).all

ticketed : (now : Option ℕ) (c : Credential) (its_ticket server : Shown) → CredentialFits c → ValueFits its_ticket → ValueFits server → PrintsJson (ticketed_record now c its_ticket server)
unfolding ticketed_record
ticketed now c its_ticket server h t s =
    alone (codes "cred") (ticketed_record now c its_ticket server).fields refl refl refl
    (small c.client.name_type h.client.name_type & small c.server.name_type h.server.name_type & omega (arith, h.enctype) & omega (arith, h.key.short)
    & its_time c.authtime h.authtime & its_time c.starttime h.starttime & its_time c.endtime h.endtime & its_time c.renew_till h.renew_till
    & omega (arith, h.is_skey) & tt & its_state now c.endtime & omega (arith, h.addresses.few) & omega (arith, h.authdata.few) & t & s
    & omega (arith, h.second_ticket.short) & tt)

shown_value : (shown : Bool) (c : Credential) → ValueFits (if shown then Quoted c.ticket else Absent)
shown_value true c = tt
shown_value false c = tt

config : (c : Credential) → CredentialFits c → PrintsJson (config_record forms.Json c)
unfolding config_record config_value
config c h =
    alone (codes "config") (config_record forms.Json c).fields refl refl refl
    (small c.client.name_type h.client.name_type & small c.server.name_type h.server.name_type & omega (arith, h.ticket.short) & shown_value (is_shown c.server.components) c & tt)

-- a Ticket that octets are
record IsTold (t : Ticket) : Type 0 where
  part : ValueFits (encrypted t.enc_part)
  server : ValueFits (ticket_server t)

told : (octets : List ℕ) → AreOctets octets → ticket_refusal profiles.Lenient octets ≡ None → IsTold (ticket_read octets)
told octets a none =
    let whole = whole_value ticket octets a none in
    let size : length (der ticket whole.0.value) < 2 ^ 31 = omega (arith, ap length whole.0.form, whole.1) in
    subst (λ v. IsTold (ticket_of v)) (sym (ap (value_of_der ticket) whole.0.form ∙ value_of_der_is_value ticket whole.0.value refl (omega (arith, size)))) (of_value whole.0.value (brief ticket refl whole.0.value whole.0.fits size))
  where
    of_value : (v : Value ticket) → IsBrief ticket v → IsTold (ticket_of v)
    of_value v h = record { part = its_encrypted (ticket_of v).enc_part h.1.1.1.0; server = h.1.1.0.0 }

-- by what the ticket field holds; a refusal is at one of its octets
module _ (inside : RefusalsAreInside) where
  judged : (now : Option ℕ) (c : Credential) (found : Option Refusal) (octets : List ℕ) → CredentialFits c → AreOctets octets → 0 < length octets → length octets < 2 ^ 32 → ticket_refusal profiles.Lenient octets ≡ found → PrintsJson (state_record forms.Json now c (judged_state found octets))
  judged now c None octets h a some short e =
      let t = told octets a e in
      ticketed now c (encrypted (ticket_read octets).enc_part) (ticket_server (ticket_read octets)) h t.part t.server
  judged now c (Some r) octets h a some short e = ticketed now c (RefusedTicket r) Absent h (omega (arith, inside.of_ticket profiles.Lenient octets r some e, short)) tt

  ticket_field : (now : Option ℕ) (c : Credential) (octets : List ℕ) → CredentialFits c → AreOctets octets → length octets < 2 ^ 32 → PrintsJson (state_record forms.Json now c (field_state octets))
  ticket_field now c [] h a short = ticketed now c NoTicket Absent h tt tt
  ticket_field now c (o ∷ octets) h a short = judged now c (ticket_refusal profiles.Lenient (o ∷ octets)) (o ∷ octets) h a (omega arith) short refl

  by_kind : (now : Option ℕ) (c : Credential) (is : Bool) → CredentialFits c → PrintsJson (state_record forms.Json now c (when is (λ _. states.Config) (λ _. field_state c.ticket)))
  by_kind now c true h = config c h
  by_kind now c false h = ticket_field now c c.ticket h h.ticket.are_octets h.ticket.short

  credential : (now : Option ℕ) (c : Credential) → CredentialFits c → PrintsJson (credential_record forms.Json now c)
  unfolding credential_record state_of
  credential now c h = by_kind now c (is_config c) h

pub files_are_json : RefusalsAreInside → FilesAreJson
files_are_json inside = record {
  of_record = of_record;
  end_of_keytab = end_of_keytab;
  cache = cache;
  credential = credential inside;
  end_of_cache = end_of_cache;
}
