-- Forms without marks, which are those of bases.
use Rattle.std.proofs.Common.{◌≡◌, false, refl, subst}
use Rattle.krb_msg.specs.declared.message.Message.{Message}
use Rattle.krb_record.specs.declared.form.Base.{Base}
use Rattle.krb_record.specs.declared.form.Base.TheVariants as bases
use Rattle.krb_record.specs.declared.form.Form.{Form}
use Rattle.krb_record.specs.declared.form.Form.TheVariants as forms
use Rattle.krb_record.specs.Forms.{form_of, is_marked, record_line, shows_kind}
use Rattle.krb_record.specs.Laws.{IsOneLine}
use Rattle.krb_record.specs.Values.{Printed}
use Rattle.krb_text.specs.Messages.{message_record, shown_record}

-- the base of a form
abbrev pub base_in : Form → Base
base_in forms.Lines = bases.Lines
base_in forms.NamedLines = bases.NamedLines
base_in forms.Json = bases.Json
base_in forms.KeptLines = bases.Lines
base_in forms.KeptNamedLines = bases.NamedLines
base_in forms.KeptJson = bases.Json
base_in (forms.Rows wanted) = bases.Lines

pub is_base : (form : Form) → is_marked form ≡ false → form_of (base_in form) ≡ form
is_base forms.Lines e = refl
is_base forms.NamedLines e = refl
is_base forms.Json e = refl
is_base forms.KeptLines e = absurd cc
is_base forms.KeptNamedLines e = absurd cc
is_base forms.KeptJson e = absurd cc
is_base (forms.Rows wanted) e = absurd cc

pub is_unmarked : (base : Base) → is_marked (form_of base) ≡ false
is_unmarked bases.Lines = refl
is_unmarked bases.NamedLines = refl
is_unmarked bases.Json = refl

-- what is one line in the form of its base is one in a form without marks
pub one_in : (shown : Form → Printed) (form : Form) → is_marked form ≡ false → IsOneLine (record_line (form_of (base_in form)) (shown (form_of (base_in form)))) → IsOneLine (record_line form (shown form))
one_in shown form e one = subst (λ (f : Form). IsOneLine (record_line f (shown f))) (is_base form e) one

-- an object shows messages of each kind
pub shown_json : (m : Message) → shown_record forms.Json m ≡ message_record m
unfolding shows_kind
shown_json m = refl
