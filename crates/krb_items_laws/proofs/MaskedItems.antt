-- What is listed of messages and Tickets is what is listed of others that differ in ciphers and checksums alone.
use Rattle.std.proofs.Common.{◌≡◌, ℕ, ◌+◌, ◌-◌, ◌^◌, ◌≤◌, min, Bool, true, false, List, [], ◌∷◌, ◌++◌, length, take, drop, map, get_or, codes, Option, Some, None, refl, sym, ◌∙◌, ap, subst, arith, le-ltb}
use Rattle.krb_der.specs.Octets.{number}
use Rattle.krb_msg.specs.Views.{kind_name, kind_with_tag}
use Rattle.krb_msg.specs.declared.message.Kind.{Kind}
use Rattle.krb_msg.specs.declared.message.Kind.TheVariants as kinds
use Rattle.krb_record.specs.Forms.{field}
use Rattle.krb_record.specs.Labels.{Label}
use Rattle.krb_record.specs.Values.{String, Value}
use Rattle.krb_items.specs.Heads.{Begun, begun_at, with_head}
use Rattle.krb_items.specs.Items.{Here, Item, Items, Limits, after_item, all_items, container, frame_items, here_at, kind_items, message_items, most_levels, ticket_items, unknown}
use Rattle.krb_items.specs.Reached.{context_by, limits_by, listing_of, reached}
use Rattle.krb_items.specs.Records.{ending, hide_if, item_line, listed_item, listed_items, listed_part, origin_text, tag_word, words_field}
use Rattle.krb_items.specs.Shapes.{message_of, ticket}
use Rattle.krb_items.specs.declared.listing.Listed.{Listed}
use Rattle.krb_items.specs.declared.reaching.Lies.{Lies}
use Rattle.krb_items.specs.declared.reaching.Lies.TheVariants as lies
use Rattle.krb_items.specs.declared.tag.Tag.TheVariants as tags
use Rattle.krb_source.specs.declared.layer.Layer.TheVariants.{Frame}
use Rattle.krb_items_laws.specs.Covers.{FramesAreCovered, MessagesAreCovered, TicketsAreCovered, whole_items}
use Rattle.krb_items_laws.specs.Masked.{MaskedFramesAreSame, MaskedMessagesAreSame, MaskedTicketsAreSame}
use Rattle.krb_items_laws.proofs.MaskedSlices.{Slice, slice-drop}
use Rattle.krb_items_laws.proofs.Masking.{AreKept, OneTold, ToldSame, is_clear, is_walked, items-told, told}

-- ---- records
abbrev Told : Type 0
Told = (List ℕ × Begun) × (Value × Bool)

abbrev first_or : Told → List Told → Told
first_or other [] = other
first_or other (first ∷ others) = first

module _ (label : Label) (octets others : List ℕ) where
  item-same : (a b : Item) (listed : Listed) → told a ≡ told b → listed_item (context_by label octets None) a listed ≡ listed_item (context_by label others None) b listed
  unfolding item_line
  item-same a b listed e =
      ap (λ (t : (List ℕ × Begun) × (Value × Bool)). record {
        text = listed.text ++ (origin_text (context_by label [] None) (codes "item") t.0.1
            ++ field label.form (codes "name") (String t.0.0)
            ++ words_field label.form (codes "type") tag_word t.0.1.tags
            ++ field label.form (codes "value") t.1.0
            ++ ending (context_by label [] None));
        count = min (listed.count + 1) (2 ^ 64 - 1);
        shown = hide_if t.1.1 None t.0.1 listed.shown;
      }) e

  items-same : (items second : List Item) (listed : Listed) → map told items ≡ map told second → listed_items (context_by label octets None) items listed ≡ listed_items (context_by label others None) second listed
  items-same [] [] listed e = refl
  items-same [] (b ∷ second) listed e = absurd cc
  items-same (a ∷ items) [] listed e = absurd cc
  items-same (a ∷ items) (b ∷ second) listed e =
      ap (λ l. listed_items (context_by label octets None) items l) (item-same a b listed (ap (first_or (told a)) e))
      ∙ items-same items second (listed_item (context_by label others None) b listed) (ap (drop 1) e)

  listing-same : (items second : Items) (listed : Listed) → items.cut ≡ None → ToldSame octets others items second → listing_of (context_by label octets None) items listed ≡ listing_of (context_by label others None) second listed
  listing-same items second listed c t =
      ap (λ cut. listed_part (context_by label octets None) cut (listed_items (context_by label octets None) items.items listed)) c
      ∙ items-same items.items second.items listed t.same
      ∙ sym (ap (λ cut. listed_part (context_by label others None) cut (listed_items (context_by label others None) second.items listed)) t.ends)

reached-same : (label : Label) (text : List ℕ) (of : Lies) (octets others : List ℕ) → (whole_items of octets).cut ≡ None → ToldSame octets others (whole_items of octets) (whole_items of others) → reached label text of octets None ≡ reached label text of others None
unfolding reached
reached-same label text of octets others c t = listing-same label octets others (whole_items of octets) (whole_items of others) (record { text = text; count = 0; shown = record { from = 0; hides = false } }) c t

-- ---- messages
walked-kind : (kind : Kind) → (is_walked most_levels (message_of kind) ≡ true) × (is_clear (message_of kind).shape (kind_name kind) ≡ true)
walked-kind kinds.AsReq = (refl, refl)
walked-kind kinds.AsRep = (refl, refl)
walked-kind kinds.TgsReq = (refl, refl)
walked-kind kinds.TgsRep = (refl, refl)
walked-kind kinds.ApReq = (refl, refl)
walked-kind kinds.ApRep = (refl, refl)
walked-kind kinds.KrbSafe = (refl, refl)
walked-kind kinds.KrbPriv = (refl, refl)
walked-kind kinds.KrbCred = (refl, refl)
walked-kind kinds.KrbError = (refl, refl)

module _ (all more : List ℕ) where
  kind-told : (limits : Limits) (here : Here) (found : Option Kind) (octets others : List ℕ) → Slice all more here.place octets others → (kind_items (all_items limits) found here octets).cut ≡ None → AreKept all more (kind_items (all_items limits) found here octets).items
      → (take 1 octets ≡ take 1 others) × ToldSame all more (kind_items (all_items limits) found here octets) (kind_items (all_items limits) found here others)
  kind-told limits here None octets others s c k = absurd (no c)
    where
      no : (unknown None here octets).cut ≡ None → ⊥
      no c = absurd cc
  kind-told limits here (Some kind) octets others s c k =
      let w = walked-kind kind in
      let o : OneTold all more (message_of kind) octets others (all_items limits (here_at here.layers (kind_name kind) here.place here.depth) (message_of kind) octets) (all_items limits (here_at here.layers (kind_name kind) here.place here.depth) (message_of kind) others) =
      items-told all more limits most_levels (here_at here.layers (kind_name kind) here.place here.depth) (message_of kind) octets others w.0 w.1 s k c in
      (o.first, o.told_same)

  message-told : (limits : Limits) (here : Here) (octets others : List ℕ) → Slice all more here.place octets others → (message_items (all_items limits) here octets).cut ≡ None → AreKept all more (message_items (all_items limits) here octets).items
      → ToldSame all more (message_items (all_items limits) here octets) (message_items (all_items limits) here others)
  message-told limits here [] others s c k = absurd cc
  message-told limits here (a ∷ octets) [] s c k = absurd (omega (arith, s.as_many))
  message-told limits here (a ∷ octets) (b ∷ others) s c k =
      let t = kind-told limits here (kind_with_tag a) (a ∷ octets) (b ∷ others) s c k in
      let first : a ≡ b = ap (λ (o : List ℕ). get_or o 0 0) t.0 in
      subst (λ (tag : ℕ). ToldSame all more (kind_items (all_items limits) (kind_with_tag a) here (a ∷ octets)) (kind_items (all_items limits) (kind_with_tag tag) here (b ∷ others))) first t.1

  all-slice : length all ≡ length more → Slice all more 0 all more
  all-slice l = record { as_many = l; points = λ i h e. subst (λ (p : ℕ). get_or all p 0 ≡ get_or more p 0) (omega arith) e }

pub masked-messages : MessagesAreCovered → MaskedMessagesAreSame
masked-messages covered label text profile octets others a e d =
    let whole : (whole_items lies.Alone octets).cut ≡ None = (covered profile octets a e).whole in
    let t : ToldSame octets others (whole_items lies.Alone octets) (message_items (all_items (limits_by octets None)) (here_at [] [] 0 0) others) =
    message-told octets others (limits_by octets None) (here_at [] [] 0 0) octets others (all-slice octets others d.as_many) whole d.kept in
    reached-same label text lies.Alone octets others whole
    (subst (λ (n : ℕ). ToldSame octets others (whole_items lies.Alone octets) (message_items (all_items (record { limit = n; fault = None })) (here_at [] [] 0 0) others)) d.as_many t)

pub masked-tickets : TicketsAreCovered → MaskedTicketsAreSame
masked-tickets covered label text profile octets others a e d =
    let whole : (whole_items lies.Ticket octets).cut ≡ None = (covered profile octets a e).whole in
    let t : ToldSame octets others (whole_items lies.Ticket octets) (ticket_items (limits_by octets None) others) =
    (items-told octets others (limits_by octets None) most_levels (here_at [] (codes "Ticket") 0 0) ticket octets others refl refl (all-slice octets others d.as_many) d.kept whole).told_same in
    reached-same label text lies.Ticket octets others whole
    (subst (λ (n : ℕ). ToldSame octets others (whole_items lies.Ticket octets) (ticket_items (record { limit = n; fault = None }) others)) d.as_many t)

-- ---- frames
abbrev frame-begun : (a b c d : ℕ) → Begun
frame-begun a b c d = with_head (begun_at (Frame ∷ []) 0 0) tags.Frame (a ∷ b ∷ c ∷ d ∷ []) (Some (number (a ∷ b ∷ c ∷ d ∷ [])))

abbrev framed : Limits → (a b c d : ℕ) → List ℕ → Items
framed limits a b c d message = after_item (container (codes "frame") (frame-begun a b c d)) (message_items (all_items limits) (here_at (Frame ∷ []) [] 4 1) message)

frame-is : (size a b c d : ℕ) (message : List ℕ) → 4 ≤ size → frame_items (record { limit = size; fault = None }) (a ∷ b ∷ c ∷ d ∷ message) ≡ framed (record { limit = size; fault = None }) a b c d message
frame-is size a b c d message h = rw (le-ltb size 4 h) refl

module _ (a b c d : ℕ) (message : List ℕ) where
  abbrev Frame-octets : List ℕ
  Frame-octets = a ∷ b ∷ c ∷ d ∷ message

  frame-told : (others : List ℕ) → length Frame-octets ≡ length others → (framed (limits_by Frame-octets None) a b c d message).cut ≡ None → AreKept Frame-octets others (framed (limits_by Frame-octets None) a b c d message).items
      → ToldSame Frame-octets others (framed (limits_by Frame-octets None) a b c d message) (frame_items (limits_by Frame-octets None) others)
  frame-told [] l cut k = absurd (omega (arith, l))
  frame-told (p ∷ []) l cut k = absurd (omega (arith, l))
  frame-told (p ∷ q ∷ []) l cut k = absurd (omega (arith, l))
  frame-told (p ∷ q ∷ r ∷ []) l cut k = absurd (omega (arith, l))
  frame-told (p ∷ q ∷ r ∷ s ∷ rest) l cut k =
      let others : List ℕ = p ∷ q ∷ r ∷ s ∷ rest in
      let limits : Limits = limits_by Frame-octets None in
      let first : a ≡ p = k.0.heads 0 (omega arith) (omega arith) in
      let second : b ≡ q = k.0.heads 1 (omega arith) (omega arith) in
      let third : c ≡ r = k.0.heads 2 (omega arith) (omega arith) in
      let fourth : d ≡ s = k.0.heads 3 (omega arith) (omega arith) in
      let t : ToldSame Frame-octets others (message_items (all_items limits) (here_at (Frame ∷ []) [] 4 1) message) (message_items (all_items limits) (here_at (Frame ∷ []) [] 4 1) rest) =
      message-told Frame-octets others limits (here_at (Frame ∷ []) [] 4 1) message rest (slice-drop Frame-octets others 0 4 Frame-octets others (all-slice Frame-octets others l)) cut k.1 in
      let same : framed limits a b c d rest ≡ framed limits p q r s rest = (λ i. framed limits (first i) (second i) (third i) (fourth i) rest) in
      subst (λ (i : Items). ToldSame Frame-octets others (framed limits a b c d message) i) (same ∙ sym (frame-is (length Frame-octets) p q r s rest (omega arith)))
      (record { same = ap (λ t. told (container (codes "frame") (frame-begun a b c d)) ∷ t) t.same; ends = t.ends })

pub masked-frames : FramesAreCovered → MaskedFramesAreSame
masked-frames covered label text profile a b c d message others octets size e differ =
    let all : List ℕ = a ∷ b ∷ c ∷ d ∷ message in
    let whole : (whole_items lies.Framed all).cut ≡ None = (covered profile a b c d message octets size e).whole in
    let is : whole_items lies.Framed all ≡ framed (limits_by all None) a b c d message = frame-is (length all) a b c d message (omega arith) in
    let t : ToldSame all others (framed (limits_by all None) a b c d message) (frame_items (limits_by all None) others) =
    frame-told a b c d message others differ.as_many (subst (λ (i : Items). i.cut ≡ None) is whole) (subst (λ (i : Items). AreKept all others i.items) is differ.kept) in
    reached-same label text lies.Framed all others whole
    (subst (λ (n : ℕ). ToldSame all others (whole_items lies.Framed all) (frame_items (record { limit = n; fault = None }) others)) differ.as_many
    (subst (λ (i : Items). ToldSame all others i (frame_items (limits_by all None) others)) (sym is) t))
