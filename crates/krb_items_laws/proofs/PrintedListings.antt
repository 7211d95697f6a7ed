-- The listing of the items of an input is lines of printable ASCII.
use Rattle.std.proofs.Common.{◌≡◌, ℕ, Bool, true, false, nat_lt, List, [], ◌∷◌, ◌++◌, length, take, Option, Some, None, IfSome, Result, Ok, Err, refl, cond}
use Rattle.std.specs.List.{AllByRecursion}
use Rattle.krb_der.specs.Octets.{AreOctets}
use Rattle.krb_der.specs.inner.Numbers.{AreOctets-take}
use Rattle.krb_der.specs.declared.profile.Profile.{Profile}
use Rattle.krb_der.specs.declared.verdict.Refusal.{Refusal}
use Rattle.krb_source.specs.declared.spelling.Spelling.{Spelling}
use Rattle.krb_input.specs.Inputs.{spelled}
use Rattle.krb_record.specs.Forms.{form_of, is_marked}
use Rattle.krb_record.specs.Labels.{line_of}
use Rattle.krb_record.specs.Laws.{IsOneLine}
use Rattle.krb_record.specs.Text.{IsPrintable}
use Rattle.krb_record.specs.declared.form.Base.{Base}
use Rattle.krb_record.specs.declared.form.Base.TheVariants as bases
use Rattle.krb_record.specs.declared.form.Form.{Form}
use Rattle.krb_run.specs.Files.{FileListing}
use Rattle.krb_tool.specs.Messages.{input_limit, message_listing}
use Rattle.krb_text_laws.proofs.EndOneLine.{one_line}
use Rattle.krb_items.specs.Reached.{believed}
use Rattle.krb_items.specs.declared.listing.Listed.{Listed}
use Rattle.krb_items.specs.declared.reaching.Lies.{Lies}
use Rattle.krb_items_run.specs.Items.{Listable, believed_record, believed_text, ended_items, found_items, front_listable, items_end_record, items_listing, judged_items, listable, octets_items, reached_before, reached_of, spelled_items}
use Rattle.krb_tool_laws.specs.Listings.{AreLinesOf, ArePrintedLines, IsLineOf, MessagesAreLines}
use Rattle.krb_tool_laws.proofs.Labelled.{labelled_line}
use Rattle.krb_tool_laws.proofs.SpelledOctets.{IsSpelled, input_spelled}
use Rattle.krb_items_laws.specs.Printed.{ItemListingsArePrinted, label_in}
use Rattle.krb_items_laws.proofs.PrintedItems.{items-are-printed, lines-append, one-line-more}

nothing : ArePrintedLines []
nothing = ([], tt, refl)

are-printed : (form : Form) (text : List ℕ) → AreLinesOf form text → ArePrintedLines text
are-printed form text l = (l.0, all l.0 l.1, l.2)
  where
    all : (lines : List (List ℕ)) → AllByRecursion (IsLineOf form) lines → AllByRecursion IsPrintable lines
    all [] a = tt
    all (line ∷ lines) a = (a.0.printable, all lines a.1)

unmarked : (base : Base) → is_marked (form_of base) ≡ false
unmarked bases.Lines = refl
unmarked bases.NamedLines = refl
unmarked bases.Json = refl

printed-if : (b : Bool) (listing other : FileListing) → ArePrintedLines listing.text → ArePrintedLines other.text → ArePrintedLines (cond b listing other).text
printed-if true listing other l o = l
printed-if false listing other l o = o

module _ (base : Base) (file : Option (List ℕ)) (named : IfSome file AreOctets) where
  end-line : (count : ℕ) → IsOneLine (line_of (label_in base file) (items_end_record count))
  end-line count = labelled_line (label_in base file) (items_end_record count) (unmarked base, named) (one_line base (items_end_record count) refl refl (tt, tt))

  believed-line : (size count : ℕ) → IsOneLine (line_of (label_in base file) (believed_record size count))
  believed-line size count = labelled_line (label_in base file) (believed_record size count) (unmarked base, named) (one_line base (believed_record size count) refl refl (tt, (tt, tt)))

  reached-printed : (ntlm : Option ℕ) (text : List ℕ) (found : Listable) (octets : List ℕ) → AreOctets octets → ArePrintedLines text → ArePrintedLines (reached_before ntlm (label_in base file) text found octets).text
  reached-printed (Some place) text found octets a t = items-are-printed base file text found.lies (take place octets) None named (AreOctets-take place octets a) t
  reached-printed None text found octets a t = items-are-printed base file text found.lies octets found.fault named a t

  believed-printed : (profile : Profile) (lies : Lies) (octets text : List ℕ) (found : Option ℕ) → AreOctets octets → ArePrintedLines text → ArePrintedLines (believed_text (label_in base file) profile lies octets text found)
  unfolding believed_text
  believed-printed profile lies octets text None a t = t
  believed-printed profile lies octets text (Some size) a t =
      reached-printed (front_listable profile lies size (take size octets)).ntlm (text ++ line_of (label_in base file) (believed_record size (length octets))) (front_listable profile lies size (take size octets)) (take size octets)
      (AreOctets-take size octets a) (one-line-more text (line_of (label_in base file) (believed_record size (length octets))) t (believed-line size (length octets)))

  judged-printed : (profile : Profile) (octets : List ℕ) (lies : Lies) (listed : Listed) (fault : Option Refusal) (refused : FileListing) → AreOctets octets → ArePrintedLines listed.text → ArePrintedLines refused.text
      → ArePrintedLines (judged_items (label_in base file) profile octets lies listed fault refused).text
  judged-printed profile octets lies listed None refused a t r = one-line-more listed.text (line_of (label_in base file) (items_end_record listed.count)) t (end-line listed.count)
  judged-printed profile octets lies listed (Some refusal) refused a t r =
      lines-append (believed_text (label_in base file) profile lies octets listed.text (believed lies octets refusal)) refused.text (believed-printed profile lies octets listed.text (believed lies octets refusal) a t) r

  ended-printed : (ntlm : Option ℕ) (profile : Profile) (octets : List ℕ) (found : Listable) (listed : Listed) (refused : FileListing) → AreOctets octets → ArePrintedLines listed.text → ArePrintedLines refused.text
      → ArePrintedLines (ended_items ntlm (label_in base file) profile octets found listed refused).text
  ended-printed (Some place) profile octets found listed refused a t r = lines-append listed.text refused.text t r
  ended-printed None profile octets found listed refused a t r = judged-printed profile octets found.lies listed found.fault refused a t r

  found-printed : (profile : Profile) (octets : List ℕ) (found : Option Listable) (refused : FileListing) → AreOctets octets → ArePrintedLines refused.text → ArePrintedLines (found_items (label_in base file) profile octets found refused).text
  found-printed profile octets None refused a r = r
  found-printed profile octets (Some found) refused a r =
      ended-printed found.ntlm profile octets found (reached_of (label_in base file) [] found octets) refused a (reached-printed found.ntlm [] found octets a nothing) r

  octets-printed : (profile : Profile) (octets : List ℕ) (refused : FileListing) → AreOctets octets → ArePrintedLines refused.text → ArePrintedLines (octets_items (label_in base file) profile octets refused).text
  unfolding octets_items
  octets-printed profile octets refused a r = printed-if (nat_lt 2147483647 (length octets)) refused _ r (found-printed profile octets (listable profile octets) refused a r)

  spelled-printed : (profile : Profile) (size : ℕ) (made : Result (Spelling × List ℕ) (Spelling × ℕ)) (refused : FileListing) → IsSpelled size made → ArePrintedLines refused.text → ArePrintedLines (spelled_items (label_in base file) profile made refused).text
  unfolding spelled_items
  spelled-printed profile size (Ok made) refused s r = octets-printed profile made.1 refused s.0 r
  spelled-printed profile size (Err fault) refused s r = r

pub listings-are-printed : MessagesAreLines → ItemListingsArePrinted
unfolding items_listing
listings-are-printed messages base file profile input named read =
    let refused : ArePrintedLines (message_listing (label_in base file) profile input).text = are-printed (form_of base) _ (messages.of_input (label_in base file) profile input (unmarked base, named) read) in
    printed-if (nat_lt input_limit (length input)) (message_listing (label_in base file) profile input) _ refused
    (spelled-printed base file named profile (length input) (spelled input) (message_listing (label_in base file) profile input) (input_spelled input read.0) refused)
