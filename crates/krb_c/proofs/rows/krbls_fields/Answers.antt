use Rattle.std.proofs.Common.{◌≡◌, ◌∙◌, ◌++◌, List, ap, inl, inr, subst, sym}
use Rattle.krb_fields.specs.declared.shape.Listing.{Listing}
use Rattle.krb_record.specs.FileNames.{name_text}
use Rattle.krb_record.specs.Text.{line_feed}
use Rattle.krb_words.specs.Chosen.{SaysNoRows}
use Rattle.krb_c.specs.Rows.{AreRows, AreRowsBy, line_of, listings_of}
use Rattle.krb_c.specs.declared.rows.Options.{Options}
use Rattle.krb_c.specs.declared.writing.Told.{Told}
use Rattle.krb_c.proofs.Told.{told-of}
use Rattle.krb_c.proofs.Worded.{said-line}
use Rattle.krb_c.proofs.rows.krbls_fields.Goals as goal

pub returns-in-Err-Wrong : goal.returns-in-Err-Wrong
returns-in-Err-Wrong c =
    let names = name_text c.args.names.now in
    let wrong = rw c.in-Err-Wrong.field-0-is at c.in-Err-Wrong.ensures.fault in
    let error = rw c.in-Err-Wrong.field-0-is at c.as_str.ensures.value in
    let told = c.answer_wrong.ensures in
    let none : SaysNoRows (listings_of c.args.listing) names wrong.0 = subst (λ (l : List Listing). SaysNoRows l names wrong.0) c.listings_of.ensures wrong.1 in
    let line : told.0 ≡ wrong.0 ++ line_feed = told.1 ∙ ap line_of (error ∙ wrong.2) ∙ said-line wrong.0 in
    inr (told.0, (wrong.0, none, line), told.2, told.3, told.4)

pub returns-in-Ok : goal.returns-in-Ok
returns-in-Ok c =
    let names = name_text c.args.names.now in let octets = c.args.octets.now in let choice = c.in-Ok.choice in let kind = c.kind_of_octets-kind.result in
    let options : Options = record { profile = c.profile_of.result; limit = c.limit_of.result; goes_on = c.goes_on.result; time = c.now_of.result; port = c.port_of.result } in
    inl (rw (sym c.listings_of.ensures, sym c.kind_of_octets-kind.ensures, sym c.profile_of.ensures, sym c.limit_of.ensures, sym c.goes_on.ensures, sym c.now_of.ensures, sym c.port_of.ensures)
    (told-of (AreRowsBy c.listings_of.result.now c.args.names.now kind options octets) (λ (m : Told). AreRows choice kind options octets m.text.items m.said.items m.end) c.rows-made.result
    (record { before = c.args.text.now; after = c.answer_told.new.text; size_before = c.args.size.now; size_after = c.answer_told.new.size })
    (record { before = c.args.said.now; after = c.answer_told.new.said; size_before = c.args.said_size.now; size_after = c.answer_told.new.said_size })
    c.answer_told.result (λ m is. (choice, c.in-Ok.ensures.choice, is)) c.rows-made.ensures c.answer_told.ensures))
