-- What is appended piece by piece.
use Rattle.std.proofs.Common.{◌≡◌, ℕ, List, [], ◌++◌, codes, append_assoc}
use Rattle.std.proofs.lemmas.List.{append-nil}
use Rattle.krb_record.specs.declared.form.Form.{Form}
use Rattle.krb_record.specs.Forms.{fields_text}
use Rattle.krb_record.specs.Values.{Field}
use Rattle.krb_record.proofs.Records.{fields_text_append}

-- a member without names
pub member_alone : (old : List ℕ) {mid new : List ℕ} (begin value : List ℕ) → mid ≡ old ++ begin ++ codes "\":" → new ≡ mid ++ value → new ≡ old ++ (begin ++ codes "\":" ++ value ++ [])
member_alone old begin value first second = rw (second, first) (simp (append_assoc, append-nil))

-- two lists of fields
pub two_lists : (old : List ℕ) {l₁ l₂ : List ℕ} (form : Form) (a b : List Field) → l₁ ≡ old ++ fields_text form a → l₂ ≡ l₁ ++ fields_text form b → l₂ ≡ old ++ fields_text form (a ++ b)
two_lists old form a b h₁ h₂ = rw (h₂, h₁, fields_text_append form a b) (simp append_assoc)

-- a member that is null, as its name is
pub null_with_name : (old begin : List ℕ) {l₁ l₂ l₃ l₄ : List ℕ} → l₁ ≡ old ++ begin ++ codes "\":" → l₂ ≡ l₁ ++ codes "null" → l₃ ≡ l₂ ++ begin → l₄ ≡ l₃ ++ codes "_name\":null" → l₄ ≡ old ++ (begin ++ codes "\":" ++ codes "null" ++ (begin ++ codes "_name\":null"))
null_with_name old begin h₁ h₂ h₃ h₄ = rw (h₄, h₃, h₂, h₁) (simp append_assoc)

-- a record of one field
pub one_field : (old : List ℕ) {opened put new : List ℕ} (opening field closing : List ℕ) → opened ≡ old ++ opening → put ≡ opened ++ field → new ≡ put ++ closing → new ≡ old ++ (opening ++ (field ++ []) ++ closing)
one_field old opening field closing first second third = rw (third, second, first) (simp (append_assoc, append-nil))

-- the line of a record of three fields
pub three_fields : (old : List ℕ) {l₁ l₂ l₃ l₄ l₅ : List ℕ} (opening a b c closing feed : List ℕ) → l₁ ≡ old ++ opening → l₂ ≡ l₁ ++ a → l₃ ≡ l₂ ++ b → l₄ ≡ l₃ ++ c → l₅ ≡ l₄ ++ closing ++ feed → l₅ ≡ old ++ (opening ++ (a ++ (b ++ (c ++ []))) ++ closing ++ feed)
three_fields old opening a b c closing feed h₁ h₂ h₃ h₄ h₅ = rw (h₅, h₄, h₃, h₂, h₁) (simp (append_assoc, append-nil))

-- the opening of a record, its fields and its end
pub two_fields : (old : List ℕ) {first second : List ℕ} (one two : List ℕ) → first ≡ old ++ one → second ≡ first ++ two → second ≡ old ++ (one ++ (two ++ []))
two_fields old one two first second = rw (second, first) (simp (append_assoc, append-nil))

-- a record of four lists of fields
pub four_lists : (old : List ℕ) {l₁ l₂ l₃ l₄ l₅ l₆ : List ℕ} (form : Form) (opening closing : List ℕ) (a b c d : List Field) →
    l₁ ≡ old ++ opening → l₂ ≡ l₁ ++ fields_text form a → l₃ ≡ l₂ ++ fields_text form b → l₄ ≡ l₃ ++ fields_text form c → l₅ ≡ l₄ ++ fields_text form d → l₆ ≡ l₅ ++ closing →
    l₆ ≡ old ++ (opening ++ fields_text form (a ++ b ++ c ++ d) ++ closing)
four_lists old form opening closing a b c d h₁ h₂ h₃ h₄ h₅ h₆ =
    rw (h₆, h₅, h₄, h₃, h₂, h₁, fields_text_append form (a ++ b ++ c) d, fields_text_append form (a ++ b) c, fields_text_append form a b) (simp append_assoc)

-- a part of one field, of two and of three
pub part_of_one : (old : List ℕ) {l₁ l₂ l₃ : List ℕ} (separator opening a closing : List ℕ) → l₁ ≡ old ++ separator ++ opening → l₂ ≡ l₁ ++ a → l₃ ≡ l₂ ++ closing → l₃ ≡ old ++ separator ++ (opening ++ (a ++ []) ++ closing)
part_of_one old separator opening a closing h₁ h₂ h₃ = rw (h₃, h₂, h₁) (simp (append_assoc, append-nil))

pub part_of_two : (old : List ℕ) {l₁ l₂ l₃ l₄ : List ℕ} (separator opening a b closing : List ℕ) → l₁ ≡ old ++ separator ++ opening → l₂ ≡ l₁ ++ a → l₃ ≡ l₂ ++ b → l₄ ≡ l₃ ++ closing → l₄ ≡ old ++ separator ++ (opening ++ (a ++ (b ++ [])) ++ closing)
part_of_two old separator opening a b closing h₁ h₂ h₃ h₄ = rw (h₄, h₃, h₂, h₁) (simp (append_assoc, append-nil))

pub part_of_three : (old : List ℕ) {l₁ l₂ l₃ l₄ l₅ : List ℕ} (separator opening a b c closing : List ℕ) → l₁ ≡ old ++ separator ++ opening → l₂ ≡ l₁ ++ a → l₃ ≡ l₂ ++ b → l₄ ≡ l₃ ++ c → l₅ ≡ l₄ ++ closing → l₅ ≡ old ++ separator ++ (opening ++ (a ++ (b ++ (c ++ []))) ++ closing)
part_of_three old separator opening a b c closing h₁ h₂ h₃ h₄ h₅ = rw (h₅, h₄, h₃, h₂, h₁) (simp (append_assoc, append-nil))

-- four fields
pub four_fields : (old : List ℕ) {l₁ l₂ l₃ l₄ : List ℕ} (a b c d : List ℕ) → l₁ ≡ old ++ a → l₂ ≡ l₁ ++ b → l₃ ≡ l₂ ++ c → l₄ ≡ l₃ ++ d → l₄ ≡ old ++ (a ++ (b ++ (c ++ (d ++ []))))
four_fields old a b c d h₁ h₂ h₃ h₄ = rw (h₄, h₃, h₂, h₁) (simp (append_assoc, append-nil))

-- the line of a record of three lists of fields
pub line_of_lists : (old : List ℕ) {l₁ l₂ l₃ l₄ l₅ : List ℕ} (form : Form) (opening closing feed : List ℕ) (a b c : List Field) →
    l₁ ≡ old ++ opening → l₂ ≡ l₁ ++ fields_text form a → l₃ ≡ l₂ ++ fields_text form b → l₄ ≡ l₃ ++ fields_text form c → l₅ ≡ l₄ ++ closing ++ feed →
    l₅ ≡ old ++ (opening ++ fields_text form (a ++ (b ++ c)) ++ closing ++ feed)
line_of_lists old form opening closing feed a b c h₁ h₂ h₃ h₄ h₅ = rw (h₅, h₄, h₃, h₂, h₁, fields_text_append form a (b ++ c), fields_text_append form b c) (simp append_assoc)
