-- What is read of a line, as the message that it spells or its first fault.
use Rattle.std.proofs.Common.{◌≡◌, ℕ, ◌<◌, ◌≤◌, List, [], ◌∷◌, ◌++◌, length, get_or, Bool, true, false, Some, None, Result, Ok, Err, refl, sym, ◌∙◌, ap, subst, arith}
use Rattle.std.specs.Prelude.{string_bytes, if◌then◌else◌, IfOk, IfErr, vec_len}
use Rattle.std.specs.Borrow.{Bor}
use Rattle.std.specs.Global.{Vec}
use Rattle.std.specs.Str.{IsUtf8, is_utf8}
use Rattle.std.proofs.lemmas.Str.{IsUtf8-from_is_utf8, is_utf8-from_IsUtf8}
use Rattle.std.proofs.lemmas.Bool.{le-ltb, lt-ltb}
use Rattle.json.specs.Json.{Json, document}
use Rattle.json.specs.Tree.{HasNumbers, MembersHaveNumbers}
use Rattle.json.specs.Value.{value_view, members_view}
use Rattle.json.specs.declared.value.Value.{Value as JsonValue}
use Rattle.krb_der.specs.declared.profile.Profile.{Profile}
use Rattle.krb_msg.specs.Term.{Term, Value, der}
use Rattle.krb_msg.specs.Views.{kind_name, kind_term_in, message_of_der}
use Rattle.krb_msg.specs.declared.message.Kind.{Kind}
use Rattle.krb_msg.specs.declared.message.Message.{Message}
use Rattle.krb_msg.specs.Nodes.{term_at}
use Rattle.krb_judge.specs.FieldNames.{names_of_kind}
use Rattle.krb_judge.specs.declared.locating.names.Names.{Names}
use Rattle.krb_json.specs.declared.wrong.Wrong.TheVariants.{Longer}
use Rattle.krb_json.specs.declared.line_fault.Fault as found
use Rattle.krb_json.specs.declared.line_fault.LineFault.{LineFault}
use Rattle.krb_json.specs.declared.value_fault.ValueFault.TheVariants.{At}
use Rattle.krb_json.specs.Faults.{Fault, fault, ◌>>=◌}
use Rattle.krb_json.specs.Lines as lines
use Rattle.krb_json.specs.Lines.{in_line, message_spelled, within, sole_member, value_of_line}
use Rattle.krb_json.specs.Reading.{AreSpelled, IsFaultOf}
use Rattle.krb_json.specs.Spelled.{spelled, unless}
use Rattle.krb_json.specs.inner.Reading.{IsRead, Reads, ReadsLine}
use Rattle.krb_json.proofs.Fit.{term-fits}
use Rattle.krb_json.proofs.KindTexts.{named}
use Rattle.krb_json.proofs.Messages.{IsOfValue, value-message}

module _ (profile : Profile) (limit : ℕ) (kind : Kind) (j : Json) where
  term : Term
  term = kind_term_in profile kind

  abbrev IsMessageRead : (octets : List ℕ) → Type 0
  IsMessageRead octets = IsRead (λ path. spelled (kind_term_in profile kind) (names_of_kind kind) path j) (der (kind_term_in profile kind)) [] octets

  abbrev checked : Value (kind_term_in profile kind) → Result Message Fault
  checked value = within limit kind (der (kind_term_in profile kind) value)

  pub message-read : (octets : List ℕ) → limit < 2147483648 → IsMessageRead octets → length octets ≤ limit → AreSpelled (in_line (message_spelled profile limit kind j)) octets
  message-read octets small r short =
      let few : length (der (kind_term_in profile kind) r.value) ≤ limit = omega (arith, short, ap length r.octets) in
      let v : IsOfValue profile kind r.value (message_of_der (der (kind_term_in profile kind) r.value)) =
      value-message profile kind r.value (term-fits (kind_term_in profile kind) (names_of_kind kind) (named profile kind) (kind_name kind) j r.value (r.spelled (kind_name kind))) (omega (arith, small, few)) in
      record {
        message = message_of_der (der (kind_term_in profile kind) r.value);
        spelled =
            ap (λ x. in_line (x >>= checked)) (r.spelled (kind_name kind))
            ∙ ap (λ b. in_line (unless b (kind_name kind) (Longer limit) (Ok (message_of_der (der (kind_term_in profile kind) r.value))))) (le-ltb limit (length (der (kind_term_in profile kind) r.value)) few);
        form = r.octets ∙ sym v.form;
      }

  pub message-long : (octets : List ℕ) → IsMessageRead octets → limit < length octets → in_line (message_spelled profile limit kind j) ≡ in_line (fault {A = Message} (kind_name kind) (Longer limit))
  message-long octets r long =
      ap (λ x. in_line (x >>= checked)) (r.spelled (kind_name kind))
      ∙ ap (λ b. in_line (unless b (kind_name kind) (Longer limit) (Ok (message_of_der (der (kind_term_in profile kind) r.value))))) (lt-ltb limit (length (der (kind_term_in profile kind) r.value)) (omega (arith, long, ap length r.octets)))

  pub message-fault : (it : found.Fault) → Reads (λ path. spelled (kind_term_in profile kind) (names_of_kind kind) path j) (der (kind_term_in profile kind)) [] [] (Err (At it)) → in_line (message_spelled profile limit kind j) ≡ in_line (fault {A = Message} (kind_name kind ++ string_bytes it.path) it.wrong)
  message-fault it r = ap (λ x. in_line (x >>= checked)) (r (kind_name kind))

  -- by the node of the messages of the kind
  pub message-at : (node : ℕ) (names : Names) (none octets : List ℕ) → term_at node ≡ kind_term_in profile kind → names ≡ names_of_kind kind → none ≡ [] → IsRead (λ path. spelled (term_at node) names path j) (der (term_at node)) none octets → IsMessageRead octets
  message-at node names none octets termed named is r =
      subst (λ t. IsRead (λ path. spelled t (names_of_kind kind) path j) (der t) [] octets) termed
      (subst (λ n. IsRead (λ path. spelled (term_at node) n path j) (der (term_at node)) [] octets) named
      (subst (λ l. IsRead (λ path. spelled (term_at node) names path j) (der (term_at node)) l octets) is r))

  pub message-returned : (octets : Vec ℕ) (r : Result (Vec ℕ) LineFault) → limit < 2147483648 → vec_len octets ≡ length octets.items → IsMessageRead octets.items → IfOk r (λ same. (same.items ≡ octets.items) × (vec_len octets ≤ limit)) → IfErr r (λ found. (limit < vec_len octets) × IsFaultOf (in_line (fault {A = Message} (kind_name kind) (Longer limit))) found) → ReadsLine (in_line (message_spelled profile limit kind j)) r
  message-returned octets (Ok same) small len r ok err =
      subst (AreSpelled (in_line (message_spelled profile limit kind j))) (sym ok.0) (message-read octets.items small r (omega (arith, ok.1, len)))
  message-returned octets (Err found) small len r ok err =
      subst (λ s. IsFaultOf s found) (sym (message-long octets.items r (omega (arith, err.0, len)))) err.1

  pub fault-returned : (node : ℕ) (names : Names) (old new : List ℕ) (it : found.Fault) (read : LineFault) → term_at node ≡ kind_term_in profile kind → names ≡ names_of_kind kind → Reads (λ path. spelled (term_at node) names path j) (der (term_at node)) old new (Err (At it)) → IsFaultOf (in_line (fault {A = Message} (kind_name kind ++ string_bytes it.path) it.wrong)) read → IsFaultOf (in_line (message_spelled profile limit kind j)) read
  fault-returned node names old new it read termed named r at =
      subst (λ s. IsFaultOf s read)
      (sym (message-fault it (subst (λ t. Reads (λ path. spelled t (names_of_kind kind) path j) (der t) [] [] (Err (At it))) termed (subst (λ n. Reads (λ path. spelled (term_at node) n path j) (der (term_at node)) [] [] (Err (At it))) named r)))) at

-- ---- the sole member of an object
module _ {A : Type 0} where
  pub not-sole : (ms : List (Bor (List ℕ) × JsonValue A)) → (length ms ≡ 1 → ⊥) → None ≡ sole_member (members_view ms)
  not-sole [] other = refl
  not-sole (m ∷ []) other = absurd (other (omega arith))
  not-sole (m ∷ n ∷ ms) other = refl

  pub is-sole : (ms : List (Bor (List ℕ) × JsonValue A)) (m : Bor (List ℕ) × JsonValue A) → length ms ≡ 1 → m ≡ get_or ms 0 m → Some (m.0.now, value_view m.1) ≡ sole_member (members_view ms)
  is-sole [] m one is = absurd (omega arith)
  is-sole (n ∷ []) m one is = ap (λ (x : Bor (List ℕ) × JsonValue A). Some (x.0.now, value_view x.1)) is
  is-sole (n ∷ o ∷ ms) m one is = absurd (omega arith)

  pub sole-numbers : (ms : List (Bor (List ℕ) × JsonValue A)) (m : Bor (List ℕ) × JsonValue A) → length ms ≡ 1 → m ≡ get_or ms 0 m → MembersHaveNumbers (members_view ms) → HasNumbers (value_view m.1)
  sole-numbers [] m one is h = absurd (omega arith)
  sole-numbers (n ∷ ms) m one is h = subst (λ (x : Bor (List ℕ) × JsonValue A). HasNumbers (value_view x.1)) (sym is) h.0

-- ---- what a line spells
pub line-octets : (spells other : Result Message lines.LineFault) (r : Result (Vec ℕ) LineFault) → spells ≡ other → ReadsLine spells r → IfOk r (λ octets. AreSpelled other octets.items)
line-octets spells other (Ok octets) e r = subst (λ s. AreSpelled s octets.items) e r
line-octets spells other (Err fault) e r = tt

pub line-fault : (spells other : Result Message lines.LineFault) (r : Result (Vec ℕ) LineFault) → spells ≡ other → ReadsLine spells r → IfErr r (IsFaultOf other)
line-fault spells other (Ok octets) e r = tt
line-fault spells other (Err fault) e r = subst (λ s. IsFaultOf s fault) e r

pub value-there : (text : List ℕ) (j : Json) → IsUtf8 text → document text ≡ Some j → value_of_line text ≡ Some j
value-there text j utf8 e = rw (is_utf8-from_IsUtf8 text utf8) e

pub no-value : (text : List ℕ) → (IsUtf8 text → document text ≡ None) → value_of_line text ≡ None
no-value text none = of (is_utf8 text) refl
  where
    of : (b : Bool) → is_utf8 text ≡ b → (if b then document text else None) ≡ None
    of true e = none (IsUtf8-from_is_utf8 text e)
    of false e = refl
