-- Frames, and what they are opened to.
use Rattle.std.proofs.Common.{◌≡◌, ◌≢◌, ℕ, zero, suc, ◌<◌, ◌⊎◌, inl, inr, ◌==◌, Bool, true, false, List, [], ◌∷◌, length, Option, Some, None, refl, sym, ◌∙◌, ap, arith}
use Rattle.std.proofs.lemmas.Bool.{cases_order}
use Rattle.std.proofs.lemmas.Bool.Decides.{nat_tests}
use Rattle.krb_der.specs.Octets.{number, when}
use Rattle.krb_der.specs.declared.why.Why.{Why}
use Rattle.krb_der.specs.declared.why.Why.TheVariants as why
use Rattle.krb_token.proofs.LayersOpened.{first_layer, layer_of, gss_under, spnego_under}
use Rattle.krb_token.specs.Laws.{IsFrame, FramesAreOpened}
use Rattle.krb_token.specs.Opened.{Part, Found, Opened, Message, Ticket, Ntlm, Refused, under, message_under, refused_bare}
use Rattle.krb_token.specs.Tokens.{frame_of_length, frame_opened, opened_from, opened, whole, is_ntlm, gss_opened, spnego_opened}
use Rattle.krb_token.specs.declared.fields.NegToken.TheVariants as neg
use Rattle.krb_source.specs.declared.layer.Layer.{Layer}
use Rattle.krb_source.specs.declared.layer.Layer.TheVariants.{Frame, Gss, Spnego}

-- ---- by the length
length_is_all : (message : List ℕ) (announced : ℕ) → announced ≡ length message → 0 < length message → frame_of_length announced message ≡ message_under (Frame ∷ []) 4 message
length_is_all message announced e some = grind (arith, nat_tests)

length_is_none : (message : List ℕ) (announced : ℕ) → announced ≡ 0 → frame_of_length announced message ≡ refused_bare (Frame ∷ []) 3 why.Empty
length_is_none message announced e = grind (arith, nat_tests)

length_is_more : (message : List ℕ) (announced : ℕ) → announced ≢ 0 → length message < announced → frame_of_length announced message ≡ refused_bare (Frame ∷ []) 3 why.Overrun
length_is_more message announced some h = grind (arith, nat_tests)

length_is_less : (message : List ℕ) (announced : ℕ) → announced ≢ 0 → announced < length message → frame_of_length announced message ≡ refused_bare (Frame ∷ []) 3 why.Loose
length_is_less message announced some h = grind (arith, nat_tests)

frame_is_opened : (message octets : List ℕ) → IsFrame message octets → opened octets ≡ message_under (Frame ∷ []) 4 message
frame_is_opened message octets frame =
    ap opened frame.form ∙ length_is_all message (number (0 ∷ frame.second ∷ frame.third ∷ frame.fourth ∷ [])) frame.announced frame.some

-- ---- what a message was found by
abbrev message_of : Found → Option Part
message_of (Message part) = Some part
message_of Ticket = None
message_of (Ntlm place) = None
message_of (Refused fault) = None

no_message : (layers : List Layer) (at : ℕ) (reason : Why) (under : List Layer) (place : ℕ) (message : List ℕ) → refused_bare layers at reason ≡ message_under under place message → ⊥
no_message layers at reason under place message e = none _ (ap (λ it. message_of it.found) e)
  where
    none : (part : Part) → ◌≡◌ {A = Option Part} None (Some part) → ⊥
    none part e = absurd cc

same_message : (layers under : List Layer) (at place : ℕ) (message found : List ℕ) → message_under layers at message ≡ message_under under place found → (at ≡ place) × (message ≡ found)
same_message layers under at place message found e =
    let m : message_of (message_under layers at message).found ≡ message_of (message_under under place found).found = ap (λ it. message_of it.found) e in
    (ap place_of m, ap octets_of m)
  where
    place_of : Option Part → ℕ
    place_of None = 0
    place_of (Some part) = part.place

    octets_of : Option Part → List ℕ
    octets_of None = []
    octets_of (Some part) = part.octets

record IsAnnounced (announced place : ℕ) (rest message : List ℕ) : Type 0 where
  all : announced ≡ length rest
  some : 0 < length rest
  at : 4 ≡ place
  same : rest ≡ message

announced_by : (announced place : ℕ) (rest message : List ℕ) → frame_of_length announced rest ≡ message_under (Frame ∷ []) place message → IsAnnounced announced place rest message
announced_by announced place rest message e = go (cases_order announced 0) (cases_order announced (length rest))
  where
    go : (announced ≡ 0) ⊎ ((announced < 0) ⊎ (0 < announced)) → (announced ≡ length rest) ⊎ ((announced < length rest) ⊎ (length rest < announced)) → IsAnnounced announced place rest message
    go (inl z) c = absurd (no_message (Frame ∷ []) 3 why.Empty (Frame ∷ []) place message (sym (length_is_none rest announced z) ∙ e))
    go (inr (inl z)) c = absurd (omega arith)
    go (inr (inr z)) (inl h) =
        let some : 0 < length rest = omega arith in
        let m = same_message (Frame ∷ []) (Frame ∷ []) 4 place rest message (sym (length_is_all rest announced h some) ∙ e) in
        record { all = h; some = some; at = m.0; same = m.1 }
    go (inr (inr z)) (inr (inl h)) = let some : announced ≢ 0 = omega arith in absurd (no_message (Frame ∷ []) 3 why.Loose (Frame ∷ []) place message (sym (length_is_less rest announced some h) ∙ e))
    go (inr (inr z)) (inr (inr h)) = let some : announced ≢ 0 = omega arith in absurd (no_message (Frame ∷ []) 3 why.Overrun (Frame ∷ []) place message (sym (length_is_more rest announced some h) ∙ e))

frame_back : (rest message : List ℕ) (place : ℕ) → frame_opened (0 ∷ rest) ≡ message_under (Frame ∷ []) place message → IsFrame message (0 ∷ rest) × (place ≡ 4)
frame_back [] message place e = absurd (no_message (Frame ∷ []) 1 why.Truncated (Frame ∷ []) place message e)
frame_back (b ∷ []) message place e = absurd (no_message (Frame ∷ []) 2 why.Truncated (Frame ∷ []) place message e)
frame_back (b ∷ c ∷ []) message place e = absurd (no_message (Frame ∷ []) 3 why.Truncated (Frame ∷ []) place message e)
frame_back (b ∷ c ∷ d ∷ rest) message place e =
    let a : IsAnnounced (number (0 ∷ b ∷ c ∷ d ∷ [])) place rest message = announced_by (number (0 ∷ b ∷ c ∷ d ∷ [])) place rest message e in (
      record {
        second = b;
        third = c;
        fourth = d;
        form = ap (λ o. 0 ∷ b ∷ c ∷ d ∷ o) a.same;
        announced = a.all ∙ ap length a.same;
        some = omega (arith, a.some, ap length a.same);
      },
      sym a.at,
    )

-- ---- octets that begin with another tag
IsNoFrame : Opened → Type 0
IsNoFrame it = first_layer it.layers ≡ Some Frame → ⊥

another : (it : Opened) (found : Option Layer) → first_layer it.layers ≡ found → (found ≡ Some Frame → ⊥) → IsNoFrame it
unfolding IsNoFrame
another it found h d = λ k. d (sym h ∙ k)

-- octets of another tag, by what the tests say of that
abbrev by_tests : (gss init response ticket ntlm : Bool) → List ℕ → Opened
by_tests gss init response ticket ntlm octets =
    when gss (λ _. gss_opened (whole octets))
    (λ _. when init (λ _. spnego_opened (Spnego ∷ []) neg.Init (whole octets))
    (λ _. when response (λ _. spnego_opened (Spnego ∷ []) neg.Response (whole octets))
    (λ _. when ticket (λ _. under [] Ticket)
    (λ _. when ntlm (λ _. under [] (Ntlm 0))
    (λ _. message_under [] 0 octets)))))

no_frame_by_tests : (gss init response ticket ntlm : Bool) (octets : List ℕ) → IsNoFrame (by_tests gss init response ticket ntlm octets)
no_frame_by_tests true init response ticket ntlm octets = another _ (Some Gss) (layer_of _ _ (gss_under (whole octets))) (λ k. absurd cc)
no_frame_by_tests false true response ticket ntlm octets = another _ (Some Spnego) (layer_of _ _ (spnego_under Spnego [] neg.Init (whole octets))) (λ k. absurd cc)
no_frame_by_tests false false true ticket ntlm octets = another _ (Some Spnego) (layer_of _ _ (spnego_under Spnego [] neg.Response (whole octets))) (λ k. absurd cc)
no_frame_by_tests false false false true ntlm octets = another (under [] Ticket) None refl (λ k. absurd cc)
no_frame_by_tests false false false false true octets = another (under [] (Ntlm 0)) None refl (λ k. absurd cc)
no_frame_by_tests false false false false false octets = another (message_under [] 0 octets) None refl (λ k. absurd cc)

no_frame : (first : ℕ) (octets : List ℕ) → (first == 0x00) ≡ false → IsNoFrame (opened_from first octets)
no_frame first octets t = rw t (no_frame_by_tests (first == 0x60) (first == 0xA0) (first == 0xA1) (first == 0x61) (is_ntlm octets) octets)

frame_from_opened : (message octets : List ℕ) (place : ℕ) → opened octets ≡ message_under (Frame ∷ []) place message → IsFrame message octets × (place ≡ 4)
unfolding IsNoFrame
frame_from_opened message [] place e = let l : None ≡ Some Frame = ap (λ it. first_layer it.layers) e in absurd cc
frame_from_opened message (zero ∷ octets) place e = frame_back octets message place e
frame_from_opened message (suc first ∷ octets) place e = absurd (no_frame (suc first) (suc first ∷ octets) (grind (arith, nat_tests)) (ap (λ it. first_layer it.layers) e))

pub frames_are_opened : FramesAreOpened
frames_are_opened message octets place =
    (frame_from_opened message octets place, λ h. frame_is_opened message octets h.0 ∙ ap (λ at. message_under (Frame ∷ []) at message) (sym h.1))
