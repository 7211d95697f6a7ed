-- Records of which nothing is told aside.
use Rattle.std.proofs.Common.{◌≡◌, ℕ, List, [], ◌++◌, sym, ap, ◌∙◌}
use Rattle.std.proofs.lemmas.List.{append-nil}
use Rattle.krb_record.specs.declared.form.Form.{Form}
use Rattle.krb_record.specs.Forms.{fields_text}
use Rattle.krb_record.specs.Values.{Field}
use Rattle.krb_record.proofs.Appended.{four_lists, one_field}

nothing_aside : (old opening fields ending : List ℕ) {new : List ℕ} → new ≡ old ++ (opening ++ fields ++ ending) → new ≡ old ++ (opening ++ fields ++ [] ++ ending)
nothing_aside old opening fields ending e = e ∙ ap (λ text. old ++ (text ++ ending)) (sym (append-nil (opening ++ fields)))

-- one of one field
pub one_field_alone : (old : List ℕ) {opened put new : List ℕ} (opening field closing : List ℕ) → opened ≡ old ++ opening → put ≡ opened ++ field → new ≡ put ++ closing → new ≡ old ++ (opening ++ (field ++ []) ++ [] ++ closing)
one_field_alone old opening field closing first second third = nothing_aside old opening (field ++ []) closing (one_field old opening field closing first second third)

-- one of four lists of fields
pub four_lists_alone : (old : List ℕ) {l₁ l₂ l₃ l₄ l₅ l₆ : List ℕ} (form : Form) (opening closing : List ℕ) (a b c d : List Field) →
    l₁ ≡ old ++ opening → l₂ ≡ l₁ ++ fields_text form a → l₃ ≡ l₂ ++ fields_text form b → l₄ ≡ l₃ ++ fields_text form c → l₅ ≡ l₄ ++ fields_text form d → l₆ ≡ l₅ ++ closing →
    l₆ ≡ old ++ (opening ++ fields_text form (a ++ b ++ c ++ d) ++ [] ++ closing)
four_lists_alone old form opening closing a b c d h₁ h₂ h₃ h₄ h₅ h₆ =
    nothing_aside old opening (fields_text form (a ++ b ++ c ++ d)) closing (four_lists old form opening closing a b c d h₁ h₂ h₃ h₄ h₅ h₆)
