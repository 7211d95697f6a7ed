use Rattle.std.proofs.Common.{◌≡◌, ℕ, ◌==◌, ◌≤◌, List, ◌++◌, true, false, length, take, refl, sym, ◌∙◌, ap, append_assoc, codes}
use Rattle.std.proofs.lemmas.List.{take_all}
use Rattle.std.specs.Int.RustNames.{bit_and}
use Rattle.std.specs.List.{filter}
use Rattle.krb_record.specs.TicketFlags.{named_flags, flag_name, set_flags, names_text}
use Rattle.krb_record.proofs.Listed.{listed, separator_after, listed_one, listed_none, none_listed, some_listed}
use Rattle.krb_record.proofs.ticket_flags.put_names.Goals.{then-contains+in_ok-push_str+in_ok-push_str-2, else-contains}
use Rattle.krb_record.proofs.ticket_flags.put_names.Goals as goal

-- all the names, if there is no name so far, and if one does
names_end : (flags i : ℕ) (separator : List ℕ) → 13 ≤ i → separator ≡ separator_after (filter (λ flag. bit_and flags flag == flag) (take i named_flags)) →
    ((length separator == 0) ≡ true → names_text flags ≡ listed flag_name (filter (λ flag. bit_and flags flag == flag) (take i named_flags)) ++ codes "-")
    × ((length separator == 0) ≡ false → names_text flags ≡ listed flag_name (filter (λ flag. bit_and flags flag == flag) (take i named_flags)))
unfolding names_text
names_end flags i separator h e =
    rw (e, take_all i named_flags h) (none_listed (codes "-") flag_name (set_flags flags), some_listed (codes "-") flag_name (set_flags flags))

pub loop-flag-preserved : goal.loop-flag-preserved
loop-flag-preserved c =
    elim c.if-contains.branch [
      | then-contains+in_ok-push_str+in_ok-push_str-2 w ↦
          let one = listed_one flag_name (λ flag. bit_and c.args.flags.0 flag == flag) named_flags c.loop-flag.flag-index 0 c.loop-flag-test.true (sym (c.contains.ensures tt) ∙ w.if-contains.true) in (
            rw (w.line-is, w.in_ok-push_str-2.ensures, w.flag_name.ensures, w.in_ok-push_str.ensures, c.loop-flag.invariant.0, c.loop-flag.invariant.1, one.0) (simp append_assoc),
            rw (w.separator-is, one.1) refl,
          )
      | else-contains w ↦
          let none = listed_none (λ flag. bit_and c.args.flags.0 flag == flag) named_flags c.loop-flag.flag-index 0 c.loop-flag-test.true (sym (c.contains.ensures tt) ∙ w.if-contains.false) in
          rw (w.line-is, w.separator-is, none) c.loop-flag.invariant
    ]

pub returns-in_ok-push_str-3 : goal.returns-in_ok-push_str-3
unfolding names_text
returns-in_ok-push_str-3 c =
    let all = names_end c.args.flags.0 c.loop-flag.flag-index c.loop-flag.separator.now c.loop-flag-test.false c.loop-flag.invariant.1 in
    c.in_ok-push_str-3.ensures
    ∙ ap (λ (t : List ℕ). t ++ codes "-") c.loop-flag.invariant.0
    ∙ append_assoc c.args.line.now (listed flag_name (filter (λ flag. bit_and c.args.flags.0 flag == flag) (take c.loop-flag.flag-index named_flags))) (codes "-")
    ∙ ap (λ (t : List ℕ). c.args.line.now ++ t) (sym (all.0 (sym c.is_empty.ensures ∙ c.if-is_empty.true)))

pub returns-else-is_empty : goal.returns-else-is_empty
unfolding names_text
returns-else-is_empty c =
    let all = names_end c.args.flags.0 c.loop-flag.flag-index c.loop-flag.separator.now c.loop-flag-test.false c.loop-flag.invariant.1 in
    rw (c.loop-flag.invariant.0, all.1 (sym c.is_empty.ensures ∙ c.if-is_empty.false)) refl
