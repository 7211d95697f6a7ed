-- GSS-API tokens as they are read, and as RFC 2743 has them.
use Rattle.std.proofs.Common.{◌≡◌, ℕ, ◌+◌, ◌-◌, ◌^◌, ◌<◌, ◌⊎◌, inl, inr, ◌==◌, ◌||◌, true, false, List, [], ◌∷◌, ◌++◌, length, Option, Some, Result, Ok, Err, refl, sym, ◌∙◌, ap, arith, length-append, append-nil}
use Rattle.std.specs.Prelude.{codes, bytes_eq}
use Rattle.std.proofs.lemmas.Bool.{cases_Bool, eqb-true, eq-eqb, or_cases}
use Rattle.std.proofs.lemmas.Slice.Eq.{bytes_eq-Decides}
use Rattle.krb_der.specs.Octets.{AreOctets, item}
use Rattle.krb_der.specs.inner.Items.{length-item}
use Rattle.krb_der.specs.inner.Numbers.{when-true}
use Rattle.krb_der.specs.declared.why.Why.TheVariants as why
use Rattle.krb_laws.proofs.TokenContents.{AreJudged}
use Rattle.krb_laws.proofs.TokenItems.{part_at, header_of, entered_item, entered_back, octets_of_contents, small_contents, placed, begins_alone, alone_back}
use Rattle.krb_laws.proofs.TokenFields.{IsOfParts, then_back, simple_form, simple_back}
use Rattle.krb_token.specs.Gss.{identified, is_kerberos, kerberos, kerberos_of_windows, user_to_user, message_tag, message_in, token_of, kerberos_opened}
use Rattle.krb_token.specs.Items.{Item, entered, expected, simple_item}
use Rattle.krb_token.specs.Opened.{Part, Fault, Found, Message, Refused, Opened, and_then, opened_by, under, message_under, fault_in, bare_fault}
use Rattle.krb_laws.specs.Opened.{Ends, IsItem, BeginsWithItem, IsGssOf, IsKerberos, IsGssToken}
use Rattle.krb_source.specs.declared.layer.Layer.{Layer}
use Rattle.krb_token.specs.declared.simple.Simple.TheVariants as simple

-- ---- what was found
pub layers_of : (layers wanted : List Layer) (found it : Found) → under layers found ≡ under wanted it → (layers ≡ wanted) × (found ≡ it)
layers_of layers wanted found it e = (ap (λ o. o.layers) e, ap (λ o. o.found) e)

pub no_message : (layers wanted : List Layer) (fault : Fault) (message : Part) → under layers (Refused fault) ≡ under wanted (Message message) → ⊥
no_message layers wanted fault message e = let f : Refused fault ≡ Message message = (layers_of layers wanted _ _ e).1 in absurd cc

pub same_message : (layers wanted : List Layer) (part message : Part) → under layers (Message part) ≡ under wanted (Message message) → (layers ≡ wanted) × (message ≡ part)
same_message layers wanted part message e = let f : Message part ≡ Message message = (layers_of layers wanted _ _ e).1 in ((layers_of layers wanted _ _ e).0, cc)

-- ---- the identifier
abbrev pub identified_item : (mechanism : List ℕ) (inner : Part) → Item
identified_item mechanism inner = record { contents = part_at (inner.place - length mechanism) mechanism; rest = inner }

pub identified_form : (mechanism : List ℕ) (part inner : Part) → IsGssOf mechanism part inner → AreJudged simple.Identifier mechanism → length part.octets < 2 ^ 32 → identified part ≡ Ok (identified_item mechanism inner)
identified_form mechanism part inner is has small =
    let outer = placed 0x60 part (item 0x06 mechanism ++ inner.octets) [] (is.form ∙ sym (append-nil _)) in
    let contents : Part = part_at (part.place + header_of (item 0x06 mechanism ++ inner.octets)) (item 0x06 mechanism ++ inner.octets) in
    let lengths : length contents.octets ≡ length (item 0x06 mechanism) + length inner.octets = length-append (item 0x06 mechanism) inner.octets in
    let begins : BeginsWithItem 0x06 contents (part_at (inner.place - length mechanism) mechanism) inner = record {
      form = refl;
      followed = omega (arith, is.ends, outer.followed, outer.ends, lengths, length-item 0x06 mechanism);
      ends = omega (arith, is.ends, outer.followed, outer.ends);
    } in
    ap (λ read. and_then {B = Item} read (λ token. and_then (expected (codes "GSS") 0x06 token.contents.place token.contents.octets) (λ _. simple_item simple.Identifier (codes "GSS.oid") false token.contents))) (entered_item (codes "GSS") 0x60 true part contents _ outer small (λ t. refl))
    ∙ simple_form simple.Identifier (codes "GSS.oid") false contents _ inner begins has (small_contents 0x60 part contents _ outer small).0 (λ t. absurd cc)

pub identified_back : (part : Part) (found : Item) → AreOctets part.octets → identified part ≡ Ok found → IsGssOf found.contents.octets part found.rest
identified_back part found a e =
    let f = then_back (entered (codes "GSS") 0x60 true part) (λ token. and_then (expected (codes "GSS") 0x06 token.contents.place token.contents.octets) (λ _. simple_item simple.Identifier (codes "GSS.oid") false token.contents)) found e in
    let g = then_back (expected (codes "GSS") 0x06 f.first.contents.place f.first.contents.octets) (λ _. simple_item simple.Identifier (codes "GSS.oid") false f.first.contents) found f.read_next in
    let is : IsItem 0x60 part f.first.contents = alone_back 0x60 part f.first (entered_back (codes "GSS") 0x60 true part f.first a f.read_first) in
    let octets : AreOctets f.first.contents.octets = (octets_of_contents 0x60 part f.first.contents _ (begins_alone 0x60 part f.first.contents is) a).0 in
    let begins : BeginsWithItem 0x06 f.first.contents found.contents found.rest = (simple_back simple.Identifier (codes "GSS.oid") false f.first.contents found octets g.read_next).read.begins in
    record { form = is.form ∙ ap (item 0x60) begins.form; ends = begins.ends ∙ is.ends }

-- what holds of all parts of octets holds of what follows the identifier
pub of_inner : (Holding : List ℕ → Type 0) → IsOfParts Holding → (mechanism : List ℕ) (part inner : Part) → IsGssOf mechanism part inner → Holding part.octets → Holding inner.octets
of_inner Holding parts mechanism part inner is h =
    let contents : Part = part_at 0 (item 0x06 mechanism ++ inner.octets) in
    (parts 0x06 contents _ _ (placed 0x06 contents mechanism inner.octets refl) (parts 0x60 part _ _ (placed 0x60 part contents.octets [] (is.form ∙ sym (append-nil _))) h).0).1

-- ---- the identifiers of Kerberos
kerberos_known : (mechanism : List ℕ) → IsKerberos mechanism → is_kerberos mechanism ≡ true
kerberos_known mechanism (inl e) = rw e refl
kerberos_known mechanism (inr (inl e)) = rw e refl
kerberos_known mechanism (inr (inr e)) = rw e refl

kerberos_contents : (mechanism : List ℕ) → IsKerberos mechanism → AreJudged simple.Identifier mechanism
kerberos_contents mechanism (inl e) = rw e (record { has_size = refl; unrefused = refl })
kerberos_contents mechanism (inr (inl e)) = rw e (record { has_size = refl; unrefused = refl })
kerberos_contents mechanism (inr (inr e)) = rw e (record { has_size = refl; unrefused = refl })

kerberos_back : (mechanism : List ℕ) → is_kerberos mechanism ≡ true → IsKerberos mechanism
kerberos_back mechanism t = go (or_cases (bytes_eq mechanism kerberos || bytes_eq mechanism kerberos_of_windows) (bytes_eq mechanism user_to_user) t)
  where
    first_two : (bytes_eq mechanism kerberos ≡ true) ⊎ (bytes_eq mechanism kerberos_of_windows ≡ true) → IsKerberos mechanism
    first_two (inl h) = inl ((bytes_eq-Decides mechanism kerberos).0 h)
    first_two (inr h) = inr (inl ((bytes_eq-Decides mechanism kerberos_of_windows).0 h))

    go : (bytes_eq mechanism kerberos || bytes_eq mechanism kerberos_of_windows ≡ true) ⊎ (bytes_eq mechanism user_to_user ≡ true) → IsKerberos mechanism
    go (inl h) = first_two (or_cases (bytes_eq mechanism kerberos) (bytes_eq mechanism kerberos_of_windows) h)
    go (inr h) = inr (inr ((bytes_eq-Decides mechanism user_to_user).0 h))

-- ---- what follows it
message_form : (layers : List Layer) (tag place : ℕ) (octets rest : List ℕ) → octets ≡ tag ∷ rest → message_in layers tag place octets ≡ message_under layers place octets
message_form layers tag place octets rest e = rw e (when-true (tag == tag) _ _ (eq-eqb tag tag refl))

token_form : (layers : List Layer) (part inner message : Part) (high tag : ℕ) (rest : List ℕ) → inner.octets ≡ high ∷ 0 ∷ message.octets → Ends message inner → message_tag high ≡ Some tag → message.octets ≡ tag ∷ rest → kerberos_opened layers inner.place inner.octets ≡ under layers (Message message)
token_form layers part inner message high tag rest form ends named begins =
    let at : inner.place + 2 ≡ message.place = omega (arith, ends, ap length form) in
    ap (kerberos_opened layers inner.place) form
    ∙ ap (λ t. token_of layers t inner.place (0 ∷ message.octets)) named
    ∙ message_form layers tag (inner.place + 2) message.octets rest begins
    ∙ ap (λ p. message_under layers p message.octets) at

-- a message was found after a place
record IsMessageIn (layers wanted : List Layer) (tag place : ℕ) (octets : List ℕ) (message : Part) : Type 0 where
  under_layers : layers ≡ wanted
  rest : List ℕ
  begins : message.octets ≡ tag ∷ rest
  same : message.octets ≡ octets
  at : message.place ≡ place

message_back : (layers wanted : List Layer) (tag place : ℕ) (octets : List ℕ) (message : Part) → message_in layers tag place octets ≡ under wanted (Message message) → IsMessageIn layers wanted tag place octets message
message_back layers wanted tag place [] message e = absurd (no_message layers wanted _ message e)
message_back layers wanted tag place (octet ∷ octets) message e = go (cases_Bool (octet == tag))
  where
    go : ((octet == tag) ≡ true) ⊎ ((octet == tag) ≡ false) → IsMessageIn layers wanted tag place (octet ∷ octets) message
    go (inl t) =
        let s = same_message layers wanted (part_at place (octet ∷ octets)) message (rw t at e) in
        let same : message.octets ≡ octet ∷ octets = ap (λ p. p.octets) s.1 in
        record { under_layers = s.0; rest = octets; begins = same ∙ ap (λ o. o ∷ octets) (eqb-true octet tag t); same = same; at = ap (λ p. p.place) s.1 }
    go (inr t) = absurd (no_message layers wanted (bare_fault place why.Tag) message (rw t at e))

record IsTokenIn (layers wanted : List Layer) (inner message : Part) : Type 0 where
  under_layers : layers ≡ wanted
  high : ℕ
  tag : ℕ
  rest : List ℕ
  form : inner.octets ≡ high ∷ 0 ∷ message.octets
  ends : Ends message inner
  named : message_tag high ≡ Some tag
  begins : message.octets ≡ tag ∷ rest

token_back : (layers wanted : List Layer) (inner message : Part) → kerberos_opened layers inner.place inner.octets ≡ under wanted (Message message) → IsTokenIn layers wanted inner message
token_back layers wanted inner message e = go inner.octets refl e
  where
    after_low : (high tag low : ℕ) (octets : List ℕ) → inner.octets ≡ high ∷ low ∷ octets → message_tag high ≡ Some tag → low ≡ 0 → IsMessageIn layers wanted tag (inner.place + 2) octets message → IsTokenIn layers wanted inner message
    after_low high tag low octets same named zero is = record {
      under_layers = is.under_layers;
      high = high;
      tag = tag;
      rest = is.rest;
      form = same ∙ rw (zero, is.same) refl;
      ends = omega (arith, is.at, ap length same, ap length is.same);
      named = named;
      begins = is.begins;
    }

    named_by : (high : ℕ) (tag : Option ℕ) (octets : List ℕ) → inner.octets ≡ high ∷ octets → message_tag high ≡ tag → token_of layers tag inner.place octets ≡ under wanted (Message message) → IsTokenIn layers wanted inner message
    named_by high (Some tag) (low ∷ octets) same named e = tested (cases_Bool (low == 0))
      where
        tested : ((low == 0) ≡ true) ⊎ ((low == 0) ≡ false) → IsTokenIn layers wanted inner message
        tested (inl t) = after_low high tag low octets same named (eqb-true low 0 t) (message_back layers wanted tag (inner.place + 2) octets message (rw t at e))
        tested (inr t) = absurd (no_message layers wanted (fault_in (codes "GSS.token-id") (inner.place + 1) why.Range) message (rw t at e))
    named_by high other another same named e = absurd (no_message layers wanted _ message e)

    go : (octets : List ℕ) → inner.octets ≡ octets → kerberos_opened layers inner.place octets ≡ under wanted (Message message) → IsTokenIn layers wanted inner message
    go [] same e = absurd (no_message layers wanted _ message e)
    go (high ∷ octets) same e = named_by high (message_tag high) octets same refl e

-- ---- a token of Kerberos
pub gss_form : (layers outer : List Layer) (next : Item → Opened) (part message : Part) → IsGssToken part message → length part.octets < 2 ^ 32 → ((found : Item) → is_kerberos found.contents.octets ≡ true → next found ≡ kerberos_opened layers found.rest.place found.rest.octets) → opened_by outer (identified part) next ≡ under layers (Message message)
gss_form layers outer next part message is small chosen =
    ap (λ read. opened_by outer read next) (identified_form is.mechanism part is.inner is.gss (kerberos_contents is.mechanism is.is_kerberos) small)
    ∙ chosen (identified_item is.mechanism is.inner) (kerberos_known is.mechanism is.is_kerberos)
    ∙ token_form layers part is.inner message is.high is.tag is.rest is.form is.ends is.named is.begins

-- what was read, if a message was found
pub record IsOpenedBy {A : Type 0} (read : Result A Fault) (next : A → Opened) (wanted : List Layer) (message : Part) : Type 0 where
  pub first : A
  pub read_first : read ≡ Ok first
  pub opened_next : next first ≡ under wanted (Message message)

pub opened_back : {A : Type 0} (layers wanted : List Layer) (read : Result A Fault) (next : A → Opened) (message : Part) → opened_by layers read next ≡ under wanted (Message message) → IsOpenedBy read next wanted message
opened_back layers wanted (Ok first) next message e = record { first = first; read_first = refl; opened_next = e }
opened_back layers wanted (Err fault) next message e = absurd (no_message layers wanted fault message e)

pub gss_back : (layers wanted : List Layer) (part message : Part) (found : Item) → IsGssOf found.contents.octets part found.rest → is_kerberos found.contents.octets ≡ true → kerberos_opened layers found.rest.place found.rest.octets ≡ under wanted (Message message) → (layers ≡ wanted) × IsGssToken part message
gss_back layers wanted part message found is known e =
    let t = token_back layers wanted found.rest message e in (
      t.under_layers,
      record { mechanism = found.contents.octets; inner = found.rest; high = t.high; tag = t.tag; rest = t.rest; gss = is; is_kerberos = kerberos_back found.contents.octets known; form = t.form; ends = t.ends; named = t.named; begins = t.begins },
    )
