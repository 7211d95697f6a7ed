use Rattle.std.proofs.Common.{◌≡◌, Some, ◌∙◌, sym, subst}
use Rattle.std.proofs.lemmas.Result.{on_ok_weaker}
use Rattle.std.specs.Option.{option_map}
use Rattle.krb_record.specs.Labels.{EndsRecord, Label}
use Rattle.krb_record.specs.declared.form.Form.TheVariants as forms
use Rattle.krb_record.proofs.Labels.{ends-kept-named, ends-kept-object, ends-kept-plain, ends-named, ends-object, ends-plain, ends-rows}
use Rattle.krb_record.proofs.label.Label.end.Goals as goal

pub returns-in-Lines : goal.returns-in-Lines
returns-in-Lines c =
    let is : record { form = forms.Lines; file = Some c.in-Some.named.file.items } ≡ c.args.self.now = (λ i. record { form = sym c.in-Lines.is i; file = option_map (λ n. n.file.items) (sym c.in-Some.is i) }) ∙ c.self.view_is in
    subst (λ (label : Label). EndsRecord label c.args.text.now c.args.text.now) is (ends-plain c.in-Some.named.file.items c.args.text.now)

pub returns-in-NamedLines : goal.returns-in-NamedLines
returns-in-NamedLines c =
    let is : record { form = forms.NamedLines; file = Some c.in-Some.named.file.items } ≡ c.args.self.now = (λ i. record { form = sym c.in-NamedLines.is i; file = option_map (λ n. n.file.items) (sym c.in-Some.is i) }) ∙ c.self.view_is in
    subst (λ (label : Label). EndsRecord label c.args.text.now c.args.text.now) is (ends-named c.in-Some.named.file.items c.args.text.now)

pub returns-in-KeptLines : goal.returns-in-KeptLines
returns-in-KeptLines c =
    let is : record { form = forms.KeptLines; file = Some c.in-Some.named.file.items } ≡ c.args.self.now = (λ i. record { form = sym c.in-KeptLines.is i; file = option_map (λ n. n.file.items) (sym c.in-Some.is i) }) ∙ c.self.view_is in
    subst (λ (label : Label). EndsRecord label c.args.text.now c.args.text.now) is (ends-kept-plain c.in-Some.named.file.items c.args.text.now)

pub returns-in-KeptNamedLines : goal.returns-in-KeptNamedLines
returns-in-KeptNamedLines c =
    let is : record { form = forms.KeptNamedLines; file = Some c.in-Some.named.file.items } ≡ c.args.self.now = (λ i. record { form = sym c.in-KeptNamedLines.is i; file = option_map (λ n. n.file.items) (sym c.in-Some.is i) }) ∙ c.self.view_is in
    subst (λ (label : Label). EndsRecord label c.args.text.now c.args.text.now) is (ends-kept-named c.in-Some.named.file.items c.args.text.now)

pub returns-in-Rows : goal.returns-in-Rows
returns-in-Rows c =
    let is : record { form = forms.Rows c.in-Rows.field-0; file = Some c.in-Some.named.file.items } ≡ c.args.self.now = (λ i. record { form = sym c.in-Rows.is i; file = option_map (λ n. n.file.items) (sym c.in-Some.is i) }) ∙ c.self.view_is in
    subst (λ (label : Label). EndsRecord label c.args.text.now c.args.text.now) is (ends-rows c.in-Rows.field-0 c.in-Some.named.file.items c.args.text.now)

pub returns-in-Json : goal.returns-in-Json
returns-in-Json c =
    let is : record { form = forms.Json; file = Some c.in-Some.named.file.items } ≡ c.args.self.now = (λ i. record { form = sym c.in-Json.is i; file = option_map (λ n. n.file.items) (sym c.in-Some.is i) }) ∙ c.self.view_is in
    let text = rw (c.in-Some.is, c.in-Json.is) at c.self.invariant in
    on_ok_weaker c.insert_members.result
    (λ adds. subst (λ (label : Label). EndsRecord label c.args.text.now c.insert_members.new.text) is (ends-object c.in-Some.named.file.items c.as_str.result.now c.args.text.now c.insert_members.new.text (c.as_str.ensures.value ∙ text) adds))
    c.insert_members.ensures

pub returns-in-KeptJson : goal.returns-in-KeptJson
returns-in-KeptJson c =
    let is : record { form = forms.KeptJson; file = Some c.in-Some.named.file.items } ≡ c.args.self.now = (λ i. record { form = sym c.in-KeptJson.is i; file = option_map (λ n. n.file.items) (sym c.in-Some.is i) }) ∙ c.self.view_is in
    let text = rw (c.in-Some.is, c.in-KeptJson.is) at c.self.invariant in
    on_ok_weaker c.insert_members-in-KeptJson.result
    (λ adds. subst (λ (label : Label). EndsRecord label c.args.text.now c.insert_members-in-KeptJson.new.text) is (ends-kept-object c.in-Some.named.file.items c.as_str-in-KeptJson.result.now c.args.text.now c.insert_members-in-KeptJson.new.text (c.as_str-in-KeptJson.ensures.value ∙ text) adds))
    c.insert_members-in-KeptJson.ensures
