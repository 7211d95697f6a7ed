-- The record of a message, part by part.
use Rattle.std.proofs.Common.{◌≡◌, ℕ, List, [], ◌∷◌, ◌++◌, None, refl, sym, ap, ◌∙◌, append_assoc, codes}
use Rattle.std.proofs.lemmas.List.{append-nil}
use Rattle.krb_msg.specs.Notes.{notes_of}
use Rattle.krb_msg.specs.Views.{kind_name, kind_of}
use Rattle.krb_msg.specs.declared.message.Message.{Message}
use Rattle.krb_record.specs.declared.form.Form.{Form}
use Rattle.krb_record.specs.Forms.{field, fields_text}
use Rattle.krb_text.specs.Inside.{inside_of}
use Rattle.krb_text.specs.Messages.{fields_of, message_record, notes}
use Rattle.krb_record.proofs.Appended.{three_fields}
use Rattle.krb_record.proofs.Records.{fields_text_append}
use Rattle.krb_record.specs.Values.{the}

-- a message: its kind, its fields and its notes
pub message_kind : (m : Message) → (message_record m).kind ≡ kind_name (kind_of m)
unfolding message_record
message_kind m = refl

pub message_fields : (form : Form) (m : Message) → fields_text form (message_record m).fields ≡ fields_text form (fields_of m) ++ field form (codes "notes") (notes (notes_of m))
unfolding message_record
message_fields form m = rw (fields_text_append form (fields_of m) (the (codes "notes") (notes (notes_of m)) ∷ [])) (simp (append_assoc, append-nil))

pub message_inside : (m : Message) → (message_record m).inside ≡ inside_of m
unfolding message_record
message_inside m = refl

pub message_aside : (m : Message) → (message_record m).aside ≡ None
unfolding message_record
message_aside m = refl

-- a record of three fields, of which nothing is told aside
pub three_fields_alone : (old : List ℕ) {l₁ l₂ l₃ l₄ l₅ : List ℕ} (opening a b c closing feed : List ℕ) → l₁ ≡ old ++ opening → l₂ ≡ l₁ ++ a → l₃ ≡ l₂ ++ b → l₄ ≡ l₃ ++ c → l₅ ≡ l₄ ++ closing ++ feed
    → l₅ ≡ old ++ (opening ++ (a ++ (b ++ (c ++ []))) ++ [] ++ closing ++ feed)
three_fields_alone old opening a b c closing feed h₁ h₂ h₃ h₄ h₅ =
    three_fields old opening a b c closing feed h₁ h₂ h₃ h₄ h₅ ∙ ap (λ text. old ++ (text ++ closing ++ feed)) (sym (append-nil (opening ++ (a ++ (b ++ (c ++ []))))))
