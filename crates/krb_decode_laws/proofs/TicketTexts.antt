-- The text of a Ticket by itself is its JSON, and spells it.
use Rattle.std.proofs.Common.{◌≡◌, ℕ, ◌^◌, ◌<◌, ◌≤◌, ◌*◌, ◌+◌, true, false, List, [], ◌∷◌, ◌++◌, length, map, Some, None, Ok, codes, refl, sym, ◌∙◌, ap, subst, append-nil, arith}
use Rattle.std.specs.Prelude.{◌==◌}
use Rattle.std.specs.List.{AllByRecursion}
use Rattle.std.proofs.lemmas.List.Splits.{slice_split_at}
use Rattle.std.proofs.lemmas.Bool.{le-ltb}
use Rattle.std.proofs.lemmas.Str.{is_utf8-from_IsUtf8, IsUtf8-from_ascii}
use Rattle.json.specs.Json.{Json, Items, document}
use Rattle.json.specs.Print.{print_from}
use Rattle.json.specs.Strict.{HasUniqueKeys, ItemsHaveUniqueKeys}
use Rattle.json.specs.Token.{Token}
use Rattle.json.specs.Tree.{HasNumbers, ItemsHaveNumbers, depth, items_depth, items_tokens, json_tokens}
use Rattle.json.specs.Value.{items_of}
use Rattle.json.proofs.Printed.Decimals.{IsNumber-signed_decimal}
use Rattle.json.proofs.Printed.Trees.{document-print}
use Rattle.krb_convert.specs.Encoding.{All, encoded, encoded_lines}
use Rattle.krb_convert.proofs.EncodedLines.{message-step, read-step}
use Rattle.krb_der.specs.Octets.{AreOctets}
use Rattle.krb_der.specs.declared.profile.Profile.TheVariants.{Lenient}
use Rattle.krb_judge.specs.Parses.{ticket_refusal}
use Rattle.krb_judge.specs.declared.locating.names.Names.TheVariants as names
use Rattle.krb_judge.proofs.Slices.{whole_value}
use Rattle.krb_json.specs.Lines.{value_of_line}
use Rattle.krb_json.specs.Objects.{json}
use Rattle.krb_json.specs.Spelled.{spelled}
use Rattle.krb_json.specs.Tickets.{line_octets, ticket_json, ticket_name, ticket_text, value_octets}
use Rattle.krb_json.proofs.Back.{magnitude, term-back}
use Rattle.krb_json.proofs.Printable.{IsPrintable, ShowsPrintable, printable-ascii, printable-hex, printable-name, printable-print, printable-shown, printable-signed}
use Rattle.krb_laws.proofs.JsonNames.{distinct}
use Rattle.krb_msg.specs.Der.{IsDer}
use Rattle.krb_msg.specs.Grammar.{encrypted_data, kerberos_string, principal_name, ticket}
use Rattle.krb_msg.specs.Laws.{ValueOfDerIsValue}
use Rattle.krb_msg.specs.Profiles.{profile_term}
use Rattle.krb_msg.specs.Term.{Fits, Value, der}
use Rattle.krb_msg.specs.Types.{ticket_of, ticket_value}
use Rattle.krb_msg.specs.ValueOfDer.{value_of_der}
use Rattle.krb_msg.proofs.ProfileValues.{lenient_der}
use Rattle.krb_msg.proofs.TypeValues.{ticket_value-of}
use Rattle.krb_record.proofs.Printable.{word}
use Rattle.krb_run.specs.TextLines.{is_blank_line, without_empty_last}
use Rattle.krb_run.proofs.SourceLineParts.{lines-empty}
use Rattle.krb_decode.specs.Decoded.{ticket_line}
use Rattle.krb_decode_laws.proofs.BackAgain.{no-feed}
use Rattle.krb_decode_laws.proofs.TicketLengths.{text-short}
use Rattle.krb_decode_laws.specs.Messages.{IsTicketText, TicketsComeBack, value_in}

-- ---- what is wanted of a value
record IsGood (j : Json) (levels : ℕ) : Type 0 where
  numbers : HasNumbers j
  shallow : depth j ≤ levels
  unique : HasUniqueKeys j
  printable : AllByRecursion ShowsPrintable (json_tokens j)

tokens-both : (a b : List Token) → AllByRecursion ShowsPrintable a → AllByRecursion ShowsPrintable b → AllByRecursion ShowsPrintable (a ++ b)
tokens-both [] b p q = q
tokens-both (t ∷ a) b p q = (p.0, tokens-both a b p.1 q)

-- the strings of a name
record AreGood (js : Items) : Type 0 where
  numbers : ItemsHaveNumbers js
  shallow : items_depth js ≤ 0
  unique : ItemsHaveUniqueKeys js
  printable : AllByRecursion ShowsPrintable (items_tokens js)

strings : (all : List (List ℕ)) → AllByRecursion (Fits kerberos_string) all → AreGood (items_of (map (json kerberos_string names.Basic) all))
strings [] fit = record { numbers = tt; shallow = omega arith; unique = tt; printable = (tt, tt) }
strings (s ∷ all) fit =
    let others = strings all fit.1 in
    record { numbers = (tt, others.numbers); shallow = omega (arith, others.shallow); unique = (tt, others.unique); printable = (printable-shown s fit.0.0, others.printable) }

principal : (value : Value principal_name) → Fits principal_name value → IsGood (json principal_name names.PrincipalName value) 2
principal value fit =
    let all = strings value.1.0 fit.1.0.1 in
    let small = magnitude _ _ value.0 refl fit.0.0 fit.0.1 in
    record {
      numbers = (IsNumber-signed_decimal value.0 small, (all.numbers, tt));
      shallow = omega (arith, all.shallow);
      unique = (distinct (codes "name-type" ∷ codes "name-string" ∷ []) refl, (tt, (all.unique, tt)));
      printable = (tt, (printable-name names.PrincipalName 0, (printable-signed value.0 small, (printable-name names.PrincipalName 1, (tt, tokens-both _ _ all.printable (tt, tt))))));
    }

encrypted : (value : Value encrypted_data) → Fits encrypted_data value → IsGood (json encrypted_data names.EncryptedData value) 1
encrypted (etype, (None, (cipher, end))) fit =
    let small = magnitude _ _ etype refl fit.0.0 fit.0.1 in
    record {
      numbers = (IsNumber-signed_decimal etype small, (tt, tt));
      shallow = omega arith;
      unique = (distinct (codes "etype" ∷ codes "cipher" ∷ []) refl, (tt, (tt, tt)));
      printable = (tt, (printable-name names.EncryptedData 0, (printable-signed etype small, (printable-name names.EncryptedData 2, (printable-hex cipher fit.1.1.0, (tt, tt))))));
    }
encrypted (etype, (Some kvno, (cipher, end))) fit =
    let small = magnitude _ _ etype refl fit.0.0 fit.0.1 in
    let few = magnitude _ _ kvno refl fit.1.0.0 fit.1.0.1 in
    record {
      numbers = (IsNumber-signed_decimal etype small, (IsNumber-signed_decimal kvno few, (tt, tt)));
      shallow = omega arith;
      unique = (distinct (codes "etype" ∷ codes "kvno" ∷ codes "cipher" ∷ []) refl, (tt, (tt, (tt, tt))));
      printable = (tt, (printable-name names.EncryptedData 0, (printable-signed etype small, (printable-name names.EncryptedData 1, (printable-signed kvno few, (printable-name names.EncryptedData 2, (printable-hex cipher fit.1.1.0, (tt, tt))))))));
    }

-- ---- a line alone is encoded to the octets that it spells
pub alone-back : (limit : ℕ) (text octets : List ℕ) → IsPrintable text → is_blank_line text ≡ false → length text ≤ 8 * limit + 65536 → line_octets Lenient limit text ≡ Ok octets → encoded false Lenient limit (text ++ 10 ∷ []) ≡ record { text = octets; end = All }
unfolding encoded
alone-back limit text octets printable some short spells =
    ap (encoded_lines false Lenient limit 1 false) (ap without_empty_last (slice_split_at (λ octet. octet == 10) text 10 [] (no-feed text printable) refl) ∙ lines-empty (text ∷ []))
    ∙ read-step (record { is_framed = false; profile = Lenient; limit = limit }) 1 false text [] short some refl
    ∙ message-step false 1 (line_octets Lenient limit text) octets (encoded_lines false Lenient limit 2 true []) spells
    ∙ ap (λ text. record { text = text; end = All }) (append-nil octets)

-- ---- a value of the grammar
module _ (value : Value ticket) (fits : Fits ticket value) (short : length (der ticket value) < 2 ^ 31) where
  its-good : IsGood (ticket_json value) 4
  its-good =
      let number = magnitude _ _ value.0 refl fits.0.0 fits.0.1 in
      let sname = principal value.1.1.0 fits.1.1.0 in
      let part = encrypted value.1.1.1.0 fits.1.1.1.0 in
      record {
        numbers = ((IsNumber-signed_decimal value.0 number, (tt, (sname.numbers, (part.numbers, tt)))), tt);
        shallow = omega (arith, sname.shallow, part.shallow);
        unique = (distinct (ticket_name ∷ []) refl, ((distinct (codes "tkt-vno" ∷ codes "realm" ∷ codes "sname" ∷ codes "enc-part" ∷ []) refl, (tt, (tt, (sname.unique, (part.unique, tt))))), tt));
        printable = (tt, ((word ticket_name refl).all, tokens-both (json_tokens (json ticket names.Ticket value)) (Token.end_object ∷ []) inner (tt, tt)));
      }
    where
      part-tokens : List Token
      part-tokens = json_tokens (json encrypted_data names.EncryptedData value.1.1.1.0)

      last : AllByRecursion ShowsPrintable (Token.key (codes "enc-part") ∷ (part-tokens ++ Token.end_object ∷ []))
      last = (printable-name names.Ticket 3, tokens-both part-tokens (Token.end_object ∷ []) (encrypted value.1.1.1.0 fits.1.1.1.0).printable (tt, tt))

      inner : AllByRecursion ShowsPrintable (json_tokens (json ticket names.Ticket value))
      inner = (
        tt,
        (
          printable-name names.Ticket 0,
          (
            printable-signed value.0 (magnitude _ _ value.0 refl fits.0.0 fits.0.1),
            (
              printable-name names.Ticket 1,
              (
                printable-shown value.1.0 fits.1.0.0,
                (
                  printable-name names.Ticket 2,
                  tokens-both (json_tokens (json principal_name names.PrincipalName value.1.1.0)) (Token.key (codes "enc-part") ∷ (part-tokens ++ Token.end_object ∷ [])) (principal value.1.1.0 fits.1.1.0).printable last,
                ),
              ),
            ),
          ),
        ),
      )

  text-printable : IsPrintable (ticket_text value)
  text-printable = printable-print false (json_tokens (ticket_json value)) its-good.printable

  text-document : document (ticket_text value) ≡ Some (ticket_json value)
  text-document = document-print (ticket_json value) its-good.numbers (omega (arith, its-good.shallow))

  text-value : value_of_line (ticket_text value) ≡ Some (ticket_json value)
  text-value = rw (is_utf8-from_IsUtf8 (ticket_text value) (IsUtf8-from_ascii (ticket_text value) (printable-ascii (ticket_text value) text-printable))) text-document

  text-back : (limit : ℕ) → length (der ticket value) ≤ limit → line_octets Lenient limit (ticket_text value) ≡ Ok (der ticket value)
  text-back limit few =
      ap (value_octets Lenient limit) text-value
      ∙ (let back : spelled ticket names.Ticket ticket_name (json ticket names.Ticket value) ≡ Ok value = term-back ticket names.Ticket refl ticket_name value fits short in rw (back, le-ltb limit (length (der ticket value)) few) refl)

  not-blank : is_blank_line (ticket_text value) ≡ false
  unfolding print_from
  not-blank = refl

  line-back : (limit : ℕ) → length (der ticket value) ≤ limit → encoded false Lenient limit (ticket_line value) ≡ record { text = der ticket value; end = All }
  line-back limit few = alone-back limit (ticket_text value) (der ticket value) text-printable not-blank (omega (arith, text-short value fits, few)) (text-back limit few)

  pub value-text : IsTicketText value
  value-text = record { document_is = text-document; unique = its-good.unique; printable = text-printable; back = line-back }

-- ---- octets that are a Ticket
pub record IsTicketOf (octets : List ℕ) : Type 0 where
  pub form : der ticket (value_in octets) ≡ octets
  pub text : IsTicketText (value_in octets)

pub ticket-of : ValueOfDerIsValue → (profile : _) (octets : List ℕ) → AreOctets octets → ticket_refusal profile octets ≡ None → IsTicketOf octets
ticket-of value_of_der_is profile octets are none =
    let whole : IsDer (profile_term profile false ticket) octets × (length octets < 2 ^ 31) = whole_value (profile_term profile false ticket) octets are none in
    let its : IsDer ticket octets = lenient_der profile false ticket whole.0 in
    let back : value_of_der ticket octets ≡ its.value = ap (value_of_der ticket) its.form ∙ value_of_der_is ticket its.value refl (omega (arith, whole.1, ap length its.form)) in
    let same : value_in octets ≡ its.value = ap (λ v. ticket_value (ticket_of v)) back ∙ ticket_value-of its.value its.fits in
    let fits : Fits ticket (value_in octets) = subst (Fits ticket) (sym same) its.fits in
    let form : der ticket (value_in octets) ≡ octets = ap (der ticket) same ∙ sym its.form in
    record { form = form; text = value-text (value_in octets) fits (omega (arith, whole.1, ap length form)) }

pub tickets_come_back : ValueOfDerIsValue → TicketsComeBack
tickets_come_back value_of_der_is = record {
  values = value-text;
  octets = λ profile octets are none. let its = ticket-of value_of_der_is profile octets are none in (its.form, its.text);
}
