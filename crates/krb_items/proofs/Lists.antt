-- Lists of words that are made of other values.
use Rattle.std.proofs.Common.{◌≡◌, ℕ, List, [], ◌∷◌, ◌++◌, map, codes, refl, sym, ap, ap₂}
use Rattle.std.specs.List.{flat_map}
use Rattle.krb_record.specs.Forms.{base_of, match_base}
use Rattle.krb_record.specs.Text.{joined}
use Rattle.krb_record.specs.declared.form.Form.{Form}
use Rattle.krb_items.specs.Records.{quoted, words_text}

flat_map-made : {A B : Type 0} (text : B → List ℕ) (make : A → B) (values : List A) → flat_map text (map make values) ≡ flat_map (λ value. text (make value)) values
flat_map-made text make [] = refl
flat_map-made text make (value ∷ values) = ap (λ others. text (make value) ++ others) (flat_map-made text make values)

joined-made : {A B : Type 0} (none separator : List ℕ) (text : B → List ℕ) (make : A → B) (values : List A) → joined none separator text (map make values) ≡ joined none separator (λ value. text (make value)) values
joined-made none separator text make [] = refl
joined-made none separator text make (value ∷ values) = ap (λ others. text (make value) ++ others) (flat_map-made (λ other. separator ++ text other) make values)

pub words_made : {A B : Type 0} (form : Form) (label begin : List ℕ) (text : B → List ℕ) (make : A → B) (values : List A) → words_text form label begin (λ value. text (make value)) values ≡ words_text form label begin text (map make values)
unfolding words_text
words_made form label begin text make values =
    ap₂ (match_base (base_of form))
    (ap (λ words. label ++ words) (sym (joined-made (codes "-") (codes ",") text make values)))
    (ap (λ words. begin ++ codes "\":" ++ (codes "[" ++ words ++ codes "]")) (sym (joined-made [] (codes ",") (λ word. quoted (text word)) make values)))
