-- The credentials of a file, one at a time: those that follow depend only on what is left of the file.
use Rattle.std.proofs.Common.{◌≡◌, ℕ, zero, suc, ◌<◌, Option, None, Some, Result, Ok, Err, List, [], ◌∷◌, length, refl, sym, ◌∙◌, ap, subst, arith, length-drop}
use Rattle.std.specs.Int.{Width, w16, w32, byte_len, from_be_bytes}
use Rattle.krb_file.specs.Fields.{Source, Fault, Bounds, limited, Reader, and_then, ◌>>=◌, succeed, with_name, with_part, called, one_part, in_part, is_empty, signed_at, names_at, number_at, counted_at, next_octets_at}
use Rattle.krb_file.specs.Items.{no_items, with_first}
use Rattle.krb_der.specs.Octets.{when}
use Rattle.krb_file.specs.declared.field_name.FieldName.TheVariants as field
use Rattle.krb_file.specs.declared.field_name.FilePart.{FilePart}
use Rattle.krb_file.specs.declared.field_name.FilePart.TheVariants as parts
use Rattle.krb_file.specs.declared.field_name.FileField.{FileField}
use Rattle.krb_file.proofs.Fields.{refused_at-ok, begun_at-ok, at_field, at, ok_is, and_then-ok, piece-ok}
use Rattle.krb_file.proofs.Items.{unrolls}
use Rattle.krb_file.proofs.Steps.{Steps, Steps-then, Steps-succeed, Steps-called, Steps-names, Steps-counted, Moved-shorter, signed-shorter}
use Rattle.krb_ccache.specs.declared.value.Credential.{Credential}
use Rattle.krb_ccache.specs.Reading.{principal_at, principal_in, credential_fields_at, credential_at, header_field_at, CacheItems, item_and, items_within, items_after}
use Rattle.krb_ccache.proofs.Faults.{Steps-from_server}

-- a reader that reads at least one octet
pub record Shortens {A : Type 0} (reader : Reader A) : Type 0 where
  pub shorter : (bounds : Bounds) (s : Source) (v : A) (t : Source) → reader bounds s ≡ Ok (v, t) → length t.octets < length s.octets

pub Shortens-then : {A B : Type 0} (reader : Reader A) (next : A → Reader B) → Shortens reader → ((value : A) → Steps (next value)) → Shortens (reader >>= next)
Shortens-then {A} {B} reader next first others = record {
  shorter = λ bounds s v t e.
      let a = and_then-ok (reader bounds s) (λ p. next p.0 bounds p.1) (v, t) e in
      let m = Moved-shorter a.0.1 t ((others a.0.0).moves bounds a.0.1 v t a.2) in
      omega (arith, first.shorter bounds s a.0.0 a.0.1 a.1);
}

-- a number has octets, whatever follows
Shortens-number : (w : Width) → 0 < byte_len w → Shortens (number_at w)
Shortens-number w some = record {
  shorter = λ bounds s v t e.
      let a = and_then-ok (next_octets_at None (byte_len w) bounds s) (λ p. Ok (from_be_bytes w p.0, p.1)) (v, t) e in
      let p = piece-ok None (byte_len w) bounds s a.0.1 a.0.0 a.1 in
      let same : a.0.1 ≡ t = ap (λ (x : ℕ × Source). x.1) (ok_is (from_be_bytes w a.0.0, a.0.1) (v, t) a.2) in
      subst (λ (x : Source). length x.octets < length s.octets) (sym p.source ∙ same) (omega (arith, length-drop (byte_len w) s.octets, p.long, some));
}

-- the same reader, whose faults are of another field
pub Shortens-at : {A : Type 0} (other : Option FileField → Option FileField) (reader : Reader A) → Shortens reader → Shortens (at_field other reader)
Shortens-at other reader one = record { shorter = λ bounds s v t e. one.shorter bounds s v t (refused_at-ok other (reader bounds s) (v, t) e) }

Shortens-one_part : {A : Type 0} (reader : Reader A) → Shortens reader → Shortens (one_part reader)
Shortens-one_part reader one = record { shorter = λ bounds s v t e. one.shorter bounds s v t (begun_at-ok s.place (reader bounds s) (v, t) e) }

pub Shortens-in_part : {A : Type 0} (part : FilePart) (reader : Reader A) → Shortens reader → Shortens (in_part part reader)
Shortens-in_part part reader one = Shortens-one_part (at_field (with_part part) reader) (Shortens-at (with_part part) reader one)

Shortens-header_field : Shortens header_field_at
Shortens-header_field =
    Shortens-then (called field.Tag (number_at w16)) _ (Shortens-at (with_name field.Tag) (number_at w16) (Shortens-number w16 (omega arith)))
    (λ tag. Steps-then (called field.Value (counted_at w16)) _ (Steps-called field.Value (counted_at w16) (Steps-counted w16)) (λ value. Steps-succeed (record { tag = tag; value = value })))

pub Shortens-header_field_in : (index : ℕ) → Shortens (in_part (parts.Header index) header_field_at)
Shortens-header_field_in index = Shortens-in_part (parts.Header index) header_field_at Shortens-header_field

pub Shortens-principal : Shortens principal_at
Shortens-principal =
    Shortens-then (called field.NameType (signed_at w32)) _ (Shortens-at (with_name field.NameType) (signed_at w32) (record { shorter = signed-shorter })) (λ name_type. Steps-then (names_at w32) _ (Steps-names w32) (λ names. Steps-succeed (record { name_type = name_type; realm = names.realm; components = names.components })))

pub Shortens-credential : {A : Type 0} (kept : Credential → ℕ → A) (version : ℕ) → Shortens (credential_at kept version)
Shortens-credential kept version = Shortens-one_part (credential_fields_at kept version) (Shortens-then (principal_in parts.Client) _ (Shortens-in_part parts.Client principal_at Shortens-principal) (Steps-from_server kept version))

-- the next item, or none at the end of the file
abbrev pub next_of : {A : Type 0} → Reader A → Reader (Option A)
next_of item_at = λ bounds source. when (is_empty source.octets) (λ _. Ok (None, source)) (λ _. (item_at >>= λ item. succeed (Some item)) bounds source)

-- what is left after a step
abbrev pub after_read : {A : Type 0} → Reader A → Option ℕ → Result (Option A × Source) Fault → CacheItems A
after_read item_at limit (Err fault) = no_items (Err fault)
after_read item_at limit (Ok (None, t)) = no_items (Ok t.place)
after_read item_at limit (Ok (Some x, t)) = with_first x (items_after item_at limit t)

module _ {A : Type 0} (item_at : Reader A) (shortens : Shortens item_at) where
  module _ (limit : Option ℕ) where
    abbrev one_step : Source → (Source → CacheItems A) → CacheItems A
    one_step s others = when (is_empty s.octets) (λ _. no_items (Ok s.place)) (λ _. item_and (item_at (limited limit) s) others)

    item_and-same : (r : Result (A × Source) Fault) (f g : Source → CacheItems A) → ((x : A) (t : Source) → r ≡ Ok (x, t) → f t ≡ g t) → item_and r f ≡ item_and r g
    item_and-same (Err e) f g same = refl
    item_and-same (Ok (x, t)) f g same = ap (with_first x) (same x t refl)

    step-same : (place : ℕ) (octets : List ℕ) (f g : Source → CacheItems A) → ((t : Source) → length t.octets < length octets → f t ≡ g t) → one_step (at place octets) f ≡ one_step (at place octets) g
    step-same place [] f g same = refl
    step-same place (octet ∷ octets) f g same =
        let s = at place (octet ∷ octets) in
        item_and-same (item_at (limited limit) s) f g (λ x t e. same t (shortens.shorter (limited limit) s x t e))

    none_within : (bound place : ℕ) (octets : List ℕ) → length octets ≡ 0 → items_within bound item_at limit (at place octets) ≡ items_within zero item_at limit (at place octets)
    none_within zero place octets none = refl
    none_within (suc bound) place [] none = refl
    none_within (suc bound) place (octet ∷ octets) none = absurd (omega (arith, none))

    by_item : (r : Result (A × Source) Fault) → item_and r (items_after item_at limit) ≡ after_read item_at limit (and_then r (λ p. Ok (Some p.0, p.1)))
    by_item (Err f) = refl
    by_item (Ok p) = refl

    by_next : (place : ℕ) (octets : List ℕ) → one_step (at place octets) (items_after item_at limit) ≡ after_read item_at limit (next_of item_at (limited limit) (at place octets))
    by_next place [] = refl
    by_next place (octet ∷ octets) = by_item (item_at (limited limit) (at place (octet ∷ octets)))

    -- the law of steps
    pub after-step : (s : Source) → items_after item_at limit s ≡ after_read item_at limit (next_of item_at (limited limit) s)
    after-step s =
        unrolls (λ bound s. items_within bound item_at limit s) one_step (λ s. length s.octets) (λ bound s. refl) (λ bound s none. none_within bound s.place s.octets none) (λ s f g same. step-same s.place s.octets f g same) s
        ∙ by_next s.place s.octets
