-- The places of the faults of the bodies of blocks, and how many octets the other parts of blocks have.
use Rattle.std.proofs.Common.{◌≡◌, ℕ, zero, suc, ◌+◌, ◌*◌, ◌^◌, ◌≤◌, ◌&&◌, ◌==◌, min, max, Bool, true, false, Option, Some, None, Result, Ok, Err, IfErr, List, length, ap, subst, arith, rules}
use Rattle.std.specs.Int.{w8, w16, w32, w64, cast_signed}
use Rattle.krb_der.specs.Octets.{when}
use Rattle.krb_file.specs.Fields.{Source, Fault, Bounds, ended, source_of, Reader, ◌>>=◌, succeed, called, next_octets_at, octets_at, number_at, octets_to_end, reaches, Fails, Agrees, IsStreamFaultIn}
use Rattle.krb_file.specs.FieldReaders.{Cursor, skipped_at, Follows, Slice, of_slice}
use Rattle.krb_file.specs.declared.fault.FileFault.{FileFault}
use Rattle.krb_file.specs.declared.fault.FileFault.TheVariants as faults
use Rattle.krb_file.specs.declared.field_name.FieldName.TheVariants as fields
use Rattle.krb_file.proofs.FieldReaders.{known, known_fault}
use Rattle.krb_packet.specs.declared.order.ByteOrder.{ByteOrder}
use Rattle.krb_packet.specs.declared.interface.Interface.{Interface}
use Rattle.krb_packet.specs.declared.interface.Options.{Options}
use Rattle.krb_packet.specs.declared.interface.Setting.{Setting}
use Rattle.krb_packet.specs.declared.interface.Setting.TheVariants as settings
use Rattle.krb_packet.specs.declared.block.BlockKind.{BlockKind}
use Rattle.krb_packet.specs.declared.block.BlockKind.TheVariants as kinds
use Rattle.krb_packet.specs.declared.body.Content.TheVariants as contents
use Rattle.krb_packet.specs.Numbers.{in_order, number_in, field_in, checked_number}
use Rattle.krb_packet.specs.Values.{link_type}
use Rattle.krb_packet.specs.Interfaces.{padded, value_at, setting_at, option_at, with_setting, after_setting, options_within, options_at, no_options, clock_of, interface_at, clock_time}
use Rattle.krb_packet.specs.Bodies.{announced, section_version, timestamp_at, timed_packet_at, enhanced_packet_at, old_packet_at, most_of, most_octets_at, simple_packet_at, content_at, value_of, in_body}
use Rattle.krb_packet.proofs.Reaching.{Passes, Passes-succeed, Passes-then, Passes-fewer, Passes-made, Passes-piece, Passes-skipped, Passes-number_at, Passes-number, Passes-called, Passes-when, Stops, Stops-succeed, Stops-then, Stops-octets, Stops-called, Stops-field, Stops-check, Stops-checked_at, Stops-whole}

Passes-value : (order : ByteOrder) (code size : ℕ) → Passes 0 (value_at order code size)
Passes-value order code size =
    Passes-when 0 (code == 9 && size == 1) _ _
    (Passes-then 0 0 (number_at w8) _ (Passes-fewer 1 _ (Passes-number_at w8)) (λ octet. Passes-fewer 3 _ (Passes-made 3 (skipped_at 3) (λ zeros. settings.Resolution octet) (Passes-skipped 3))))
    (Passes-when 0 (code == 14 && size == 8) _ _
    (Passes-fewer 8 _ (Passes-made 8 (next_octets_at None 8) (λ octets. settings.Offset (cast_signed w64 (in_order w64 order octets))) (Passes-piece 8)))
    (Passes-fewer (padded size) _ (Passes-made (padded size) (skipped_at (padded size)) (λ zeros. settings.Other) (Passes-skipped (padded size)))))

Passes-setting : (order : ByteOrder) → Passes 0 (setting_at order)
Passes-setting order =
    Passes-then 0 0 (number_in w16 order) _ (Passes-fewer 2 _ (Passes-number w16 order)) (λ code.
    Passes-then 0 0 (number_in w16 order) _ (Passes-fewer 2 _ (Passes-number w16 order)) (λ size.
    Passes-when 0 (code == 0) _ _ (Passes-succeed None) (Passes-made 0 (value_at order code size) Some (Passes-value order code size))))

stops_test : (test : Bool) (found : Options) (more : Reader Options) → Stops more → Stops (when test (λ _. succeed found) (λ _. more))
stops_test true found more stops = Stops-succeed found
stops_test false found more stops = stops

stops_setting : (found : Options) (others : Options → Reader Options) → ((options : Options) → Stops (others options)) → (setting : Option Setting) → Stops (after_setting found setting others)
stops_setting found others each None = Stops-succeed found
stops_setting found others each (Some setting) = each (with_setting setting found)

at_place : {A : Type 0} (reader : Bounds → ℕ → Reader A) → ((bounds : Bounds) (place : ℕ) → Stops (reader bounds place)) → Stops (λ bounds source. reader bounds source.place bounds source)
at_place reader each = record {
  passes = record { goes = λ bounds s v t e. (each bounds s.place).passes.goes bounds s v t e };
  upto = λ bounds s f e. (each bounds s.place).upto bounds s f e;
}

Stops-options_within : (bound : ℕ) (order : ByteOrder) (found : Options) → Stops (options_within bound order found)
Stops-options_within zero order found = Stops-succeed found
Stops-options_within (suc bound) order found =
    at_place (λ bounds place. when (reaches place bounds.end) (λ _. succeed found) (λ _. option_at order >>= λ setting. after_setting found setting (options_within bound order)))
    (λ bounds place. stops_test (reaches place bounds.end) found (option_at order >>= λ setting. after_setting found setting (options_within bound order))
    (Stops-then (option_at order) (λ setting. after_setting found setting (options_within bound order)) (Stops-whole (called fields.Options (setting_at order)) (Passes-called 0 fields.Options (setting_at order) (Passes-setting order))) (stops_setting found (options_within bound order) (Stops-options_within bound order))))

Stops-options : (order : ByteOrder) → Stops (options_at order)
Stops-options order = at_place (λ bounds place. options_within (octets_to_end bounds.end place) order no_options) (λ bounds place. Stops-options_within (octets_to_end bounds.end place) order no_options)

Stops-interface : (order : ByteOrder) → Stops (interface_at order)
Stops-interface order =
    Stops-then (field_in fields.LinkType w16 order) _ (Stops-field fields.LinkType w16 order) (λ link.
    Stops-then (field_in fields.Reserved w16 order) _ (Stops-field fields.Reserved w16 order) (λ reserved.
    Stops-then (field_in fields.SnapLen w32 order) _ (Stops-field fields.SnapLen w32 order) (λ snaplen.
    Stops-then (options_at order) _ (Stops-options order) (λ options.
    Stops-succeed (record { link = link_type link; snaplen = snaplen; clock = clock_of options })))))

Stops-timed : (order : ByteOrder) (count : ℕ) (interface : Interface) → Stops (timed_packet_at order count interface)
Stops-timed order count interface =
    Stops-then (timestamp_at order) _ (
    Stops-then (field_in fields.Timestamp w32 order) _ (Stops-field fields.Timestamp w32 order) (λ high.
    Stops-then (field_in fields.Timestamp w32 order) _ (Stops-field fields.Timestamp w32 order) (λ low. Stops-succeed (high * 2 ^ 32 + low)))
    ) (λ units.
    Stops-then (field_in fields.CapturedLength w32 order) _ (Stops-field fields.CapturedLength w32 order) (λ captured.
    Stops-then (field_in fields.OriginalLength w32 order) _ (Stops-field fields.OriginalLength w32 order) (λ original.
    Stops-then (called fields.Data (octets_at captured)) _ (Stops-called fields.Data (octets_at captured) (Stops-octets captured)) (λ octets.
    Stops-succeed (record { number = count + 1; time = clock_time interface.clock units; link = interface.link; octets = octets; size = max captured original })))))

Stops-most : (most : ℕ) → Stops (most_octets_at most)
Stops-most most = at_place (λ bounds place. octets_at (min most (octets_to_end bounds.end place))) (λ bounds place. Stops-octets (min most (octets_to_end bounds.end place)))

Stops-simple : (order : ByteOrder) (count : ℕ) (interfaces : List Interface) → Stops (simple_packet_at order count interfaces)
Stops-simple order count interfaces =
    Stops-then _ _ (Stops-check fields.Interface (announced interfaces 0)) (λ interface.
    Stops-then (field_in fields.OriginalLength w32 order) _ (Stops-field fields.OriginalLength w32 order) (λ original.
    Stops-then (called fields.Data (most_octets_at (most_of interface.snaplen original))) _ (Stops-called fields.Data (most_octets_at (most_of interface.snaplen original)) (Stops-most (most_of interface.snaplen original))) (λ octets.
    Stops-succeed (record { number = count + 1; time = None; link = interface.link; octets = octets; size = original }))))

pub Stops-content : (kind : BlockKind) (order : ByteOrder) (count : ℕ) (interfaces : List Interface) → Stops (content_at kind order count interfaces)
Stops-content kinds.Section order count interfaces = Stops-then (checked_number fields.Version w16 order section_version) _ (Stops-checked_at fields.Version w16 order section_version) (λ version. Stops-succeed (contents.Section order))
Stops-content kinds.Interface order count interfaces = Stops-then (interface_at order) _ (Stops-interface order) (λ interface. Stops-succeed (contents.Interface interface))
Stops-content kinds.OldPacket order count interfaces =
    Stops-then (old_packet_at order count interfaces) _
    (Stops-then (checked_number fields.Interface w16 order (announced interfaces)) _ (Stops-checked_at fields.Interface w16 order (announced interfaces)) (λ interface.
    Stops-then (field_in fields.Drops w16 order) _ (Stops-field fields.Drops w16 order) (λ drops. Stops-timed order count interface)))
    (λ packet. Stops-succeed (contents.Packet packet))
Stops-content kinds.SimplePacket order count interfaces = Stops-then (simple_packet_at order count interfaces) _ (Stops-simple order count interfaces) (λ packet. Stops-succeed (contents.Packet packet))
Stops-content kinds.EnhancedPacket order count interfaces =
    Stops-then (enhanced_packet_at order count interfaces) _
    (Stops-then (checked_number fields.Interface w32 order (announced interfaces)) _ (Stops-checked_at fields.Interface w32 order (announced interfaces)) (λ interface. Stops-timed order count interface))
    (λ packet. Stops-succeed (contents.Packet packet))
Stops-content kinds.Other order count interfaces = Stops-succeed contents.Other

-- ---- a body that is read as a slice
abbrev pub whole : List ℕ → Slice
whole body = record { place = 0; end = Some (length body); octets = body }

pub value-err : {A : Type 0} (r : Result (A × Source) Fault) (f : Fault) → value_of r ≡ Err f → r ≡ Err f
value-err (Ok read) f e = absurd cc
value-err {A} (Err fault) f e = let same : fault ≡ f = cc in ap (λ (x : Fault). let it : Result (A × Source) Fault = Err x in it) same

fault_of : {A : Type 0} (e : FileFault) (r : Result (A × Source) Fault) → Fails e r → Fails e (value_of r)
fault_of faults.Memory r fails = tt
fault_of faults.Read r fails = fails
fault_of (faults.Refused fault) r fails = ap value_of fails

pub body_agrees : {A : Type 0} (reader : Reader A) (body : List ℕ) (r : Result A FileFault) (old : Cursor) (t : Slice) → old ≡ of_slice (whole body) → Follows (λ (value : A). value) r reader ⊥ old (of_slice t) → Agrees (λ (value : A). value) r (in_body reader body)
body_agrees {A} reader body r old t is follows = by_cases r (subst (λ (cursor : Cursor). Follows (λ (value : A). value) r reader ⊥ cursor (of_slice t)) is follows)
  where
    by_cases : (x : Result A FileFault) → Follows (λ (value : A). value) x reader ⊥ (of_slice (whole body)) (of_slice t) → Agrees (λ (value : A). value) x (in_body reader body)
    by_cases (Ok value) read = ap value_of (known reader value (whole body) t read)
    by_cases (Err e) fails = fault_of e (reader (ended (Some (length body))) (source_of body)) (known_fault reader e (whole body) fails)

pub body_inside : {A : Type 0} (reader : Reader A) (body : List ℕ) (r : Result A FileFault) → Stops reader → Agrees (λ (value : A). value) r (in_body reader body) → IfErr r (IsStreamFaultIn body)
body_inside reader body (Ok value) stops succeed = search rules
body_inside reader body (Err faults.Memory) stops succeed = search rules
body_inside reader body (Err faults.Read) stops succeed = search rules
body_inside reader body (Err (faults.Refused fault)) stops succeed =
    let upto = stops.upto (ended (Some (length body))) (source_of body) fault (value-err (reader (ended (Some (length body))) (source_of body)) fault succeed) in
    let near : fault.place ≤ length body = omega (arith, upto) in
    search (rules, near)
