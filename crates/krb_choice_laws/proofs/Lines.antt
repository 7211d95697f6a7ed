-- What is written of a listing, record by record.
use Rattle.std.proofs.Common.{◌≡◌, ◌∙◌, ℕ, ◌==◌, ◌<◌, ◌&&◌, not, Bool, true, false, cond, List, [], ◌∷◌, ◌++◌, append-nil, append_assoc, map, Option, Some, None, sym, refl, ap, ap₂, arith, codes, if◌then◌else◌}
use Rattle.std.proofs.lemmas.Bool.{and_from, and_parts, ne_eqb, not-true}
use Rattle.std.proofs.lemmas.List.{map-append}
use Rattle.std.specs.List.{AllByRecursion, flat_map}
use Rattle.std.specs.Option.{option_map}
use Rattle.std.specs.Prelude.{bytes_eq}
use Rattle.krb_record.specs.Forms.{record_line, record_text}
use Rattle.krb_record.specs.Values.{LastLine, Printed}
use Rattle.krb_choice.specs.Choices.{Choice, Print, Rows, Whole, chosen_text, is_kept, is_there, kind_alone, shown, told_line, told_text}
use Rattle.krb_choice.specs.Marked.{Piece, aside_of, pieces, read_record, written}
use Rattle.krb_choice.specs.Wanted.{choice_form, wanted_by}
use Rattle.krb_choosing.specs.Listings.{chosen_listing, chosen_of, is_last, records_after, told_after, told_if, told_listing, told_of}
use Rattle.krb_choice_laws.specs.Listing.{may_be_last}
use Rattle.krb_choice_laws.specs.Plain.{IsPlain, line_text}
use Rattle.krb_choice_laws.proofs.Kept.{kept-is, read-is, whole-parts, written-is}
use Rattle.krb_choice_laws.proofs.Marks.{ArePieces, pieces-spelled, spelled}
use Rattle.krb_choice_laws.proofs.Reading.{told-is}
use Rattle.krb_choice_laws.proofs.Spelled.{record-are, record-spelled, record_pieces}
use Rattle.krb_choice_laws.proofs.Whole.{feeds-append, has_no_feed, no-feeds, or_told, record-keeps}

-- ---- a text of records has no line feed but at the end of each
no-mark-feed : (c : ℕ) → c < 10 → not (c == 10) ≡ true
no-mark-feed c h = ap not (ne_eqb c 10 (λ e. absurd (omega (arith, e))))

spelled-feed : (ps : List Piece) → ArePieces ps → has_no_feed (spelled ps) ≡ true
spelled-feed [] h = refl
spelled-feed (p ∷ ps) h = and_from (not (p.mark == 10)) (has_no_feed (p.text ++ spelled ps)) (no-mark-feed p.mark h.0.mark) (feeds-append p.text (spelled ps) (no-feeds p.text h.0.text) (spelled-feed ps h.1))

a-line : (begun text rest : List ℕ) → has_no_feed text ≡ true → records_after begun (text ++ (10 ∷ rest)) ≡ (begun ++ text) ∷ records_after [] rest
a-line begun [] rest h = ap (λ l. l ∷ records_after [] rest) (sym (append-nil begun))
a-line begun (c ∷ others) rest h =
    let parts = and_parts (not (c == 10)) (has_no_feed others) h in
    ap (λ b. cond b (begun ∷ records_after [] (others ++ (10 ∷ rest))) (records_after (begun ++ c ∷ []) (others ++ (10 ∷ rest)))) (not-true (c == 10) parts.0)
    ∙ a-line (begun ++ c ∷ []) others rest parts.1 ∙ ap (λ l. l ∷ records_after [] rest) (append_assoc begun (c ∷ []) others)

-- ---- a record in the form of a choice
record Listed (goes_on : Bool) (text : List ℕ) (r : Printed) : Type 0 where
  pub feed : has_no_feed text ≡ true
  pub last : is_last goes_on text ≡ may_be_last goes_on r
  pub told : aside_of (pieces text) ≡ option_map line_text r.aside

last-by : (goes_on : Bool) (text : List ℕ) (r : Printed) → aside_of (pieces text) ≡ option_map line_text r.aside → (read_record text).kind ≡ kind_alone r.kind → is_last goes_on text ≡ may_be_last goes_on r
last-by goes_on text r told kind = ap₂ (λ a k. is_there a && not (goes_on && bytes_eq k (codes "refused"))) told kind ∙ ap (λ b. b && not (goes_on && bytes_eq (kind_alone r.kind) (codes "refused"))) (still-there r.aside)
  where
    still-there : (aside : Option LastLine) → is_there (option_map line_text aside) ≡ is_there aside
    still-there None = refl
    still-there (Some line) = refl

or-none : (told : Option (List ℕ)) → or_told told None ≡ told
or-none None = refl
or-none (Some line) = refl

listed : (goes_on : Bool) (c : Choice) (r : Printed) → IsPlain r → Listed goes_on (record_text (choice_form c) r) r
unfolding choice_form
listed goes_on c r plain = by c.print
  where
    by : (print : Print) → Listed goes_on (record_text (choice_form (record { by_kind = c.by_kind; kinds = c.kinds; print = print })) r) r
    by (Rows columns) =
        let w = wanted_by c.by_kind c.kinds columns in
        let are = record-are w r plain in
        let pieces_are : pieces (record_text (choice_form (record { by_kind = c.by_kind; kinds = c.kinds; print = Rows columns })) r) ≡ record_pieces w r = ap pieces (sym (record-spelled w r)) ∙ pieces-spelled (record_pieces w r) are in
        let told = ap aside_of pieces_are ∙ told-is w r in
        record {
          feed = ap has_no_feed (sym (record-spelled w r)) ∙ spelled-feed (record_pieces w r) are;
          last = last-by goes_on (record_text (choice_form (record { by_kind = c.by_kind; kinds = c.kinds; print = Rows columns })) r) r told (ap (λ of. of.kind) (read-is w r plain));
          told = told;
        }
    by (Whole base) =
        let keeps = record-keeps base r plain in
        let text = record_text (choice_form (record { by_kind = c.by_kind; kinds = c.kinds; print = Whole base })) r in
        let told = ap (λ l. aside_of (pieces l)) (sym (append-nil text)) ∙ keeps.told_is [] ∙ or-none (option_map line_text r.aside) in
        record { feed = keeps.feed; last = last-by goes_on text r told (whole-parts c.kinds base r plain).0; told = told }

-- ---- the listing
module _ (c : Choice) (goes_on : Bool) where
  abbrev text_of : Printed → List ℕ
  text_of r = record_text (choice_form c) r

  records-are : (records : List Printed) → AllByRecursion IsPlain records → records_after [] (flat_map (record_line (choice_form c)) records) ≡ map text_of records
  records-are [] h = refl
  records-are (r ∷ others) h =
      ap (records_after []) (append_assoc (text_of r) (10 ∷ []) (flat_map (record_line (choice_form c)) others))
      ∙ a-line [] (text_of r) (flat_map (record_line (choice_form c)) others) (listed goes_on c r h.0).feed ∙ ap (λ l. text_of r ∷ l) (records-are others h.1)

  each-chosen : (records : List Printed) → AllByRecursion IsPlain records → flat_map (chosen_of c goes_on) (map text_of records) ≡ flat_map (λ r. chosen_text c (may_be_last goes_on r) r) records
  each-chosen [] h = refl
  each-chosen (r ∷ others) h =
      ap₂ (λ a b. a ++ b) (ap (λ last. written c last (text_of r)) (listed goes_on c r h.0).last ∙ written-is c (may_be_last goes_on r) r h.0) (each-chosen others h.1)

  pub listing-chosen : (records : List Printed) → AllByRecursion IsPlain records → chosen_listing c goes_on (flat_map (record_line (choice_form c)) records) ≡ flat_map (λ r. chosen_text c (may_be_last goes_on r) r) records
  unfolding chosen_listing
  listing-chosen records h = ap (flat_map (chosen_of c goes_on)) (records-are records h) ∙ each-chosen records h

  -- ---- what is told of the last record
  after-all : (told : List ℕ) (texts : List (List ℕ)) (text : List ℕ) → told_after c goes_on told (texts ++ text ∷ []) ≡ told_of c goes_on text
  after-all told [] text = refl
  after-all told (first ∷ texts) text = after-all (told_of c goes_on first) texts text

  all-plain : (before : List Printed) (last : Printed) → AllByRecursion IsPlain before → IsPlain last → AllByRecursion IsPlain (before ++ last ∷ [])
  all-plain [] last h k = (k, tt)
  all-plain (r ∷ others) last h k = (h.0, all-plain others last h.1 k)

  -- the line of a record, if it is not kept
  line-told : (kept : Bool) (aside : Option LastLine) → told_if kept (option_map line_text aside) ≡ (if kept then [] else told_line aside)
  line-told true None = refl
  line-told false None = refl
  line-told true (Some line) = refl
  line-told false (Some line) = refl

  one-told : (r : Printed) → IsPlain r → may_be_last goes_on r ≡ true → told_of c goes_on (text_of r) ≡ told_text c r
  unfolding told_text
  one-told r h last =
      let is = listed goes_on c r h in
      ap₂ told_if (ap (λ b. is_kept c b (read_record (text_of r))) (is.last ∙ last) ∙ kept-is c true r h) is.told ∙ line-told (is_kept c true (shown r)) r.aside

  pub listing-told : (before : List Printed) (last : Printed) → AllByRecursion IsPlain before → IsPlain last → may_be_last goes_on last ≡ true
      → told_listing c goes_on (flat_map (record_line (choice_form c)) (before ++ last ∷ [])) ≡ told_text c last
  unfolding told_listing
  listing-told before last h k ends =
      ap (told_after c goes_on []) (records-are (before ++ last ∷ []) (all-plain before last h k) ∙ map-append text_of before (last ∷ []))
      ∙ after-all [] (map text_of before) (text_of last) ∙ one-told last k ends
