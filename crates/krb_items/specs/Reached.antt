-- What is listed of octets, by what they are, and by what is refused of them.
use Rattle.std.specs.Prelude.{ℕ, ◌+◌, ◌&&◌, ◌==◌, nat_le, Bool, true, false, if◌then◌else◌, List, [], ◌∷◌, length, take, codes, Option, Some, None}
use Rattle.krb_der.specs.declared.verdict.Refusal.{Refusal}
use Rattle.krb_der.specs.declared.why.Why.{Why}
use Rattle.krb_der.specs.declared.why.Why.TheVariants as why
use Rattle.krb_source.specs.declared.layer.Layer.TheVariants.{Gss, Spnego}
use Rattle.krb_record.specs.Forms.{last_text}
use Rattle.krb_record.specs.Labels.{Label, begin_text, with_label}
use Rattle.krb_record.specs.Values.{printed}
use Rattle.krb_items.specs.Heads.{head_in}
use Rattle.krb_items.specs.Items.{Items, Limits, all_items, frame_items, frame_size, gss_items, here_at, message_items, spnego_items, ticket_items}
use Rattle.krb_items.specs.Records.{Context, listed_items, listed_part}
use Rattle.krb_items.specs.declared.head.Head.{Head}
use Rattle.krb_items.specs.declared.listing.Listed.{Listed}
use Rattle.krb_items.specs.declared.reaching.FirstHead.{FirstHead}
use Rattle.krb_items.specs.declared.reaching.Lies.{Lies}
use Rattle.krb_items.specs.declared.reaching.Lies.TheVariants as lies

-- the items of octets, of which so many are right
abbrev pub items_as : Lies → Limits → List ℕ → Items
items_as lies.Alone limits octets = message_items (all_items limits) (here_at [] [] 0 0) octets
items_as lies.Ticket limits octets = ticket_items limits octets
items_as lies.Framed limits octets = frame_items limits octets
items_as lies.Gss limits octets = gss_items (all_items limits) limits (here_at (Gss ∷ []) (codes "GSS") 0 0) octets
items_as (lies.Spnego neg) limits octets = spnego_items (all_items limits) limits neg (here_at (Spnego ∷ []) (codes "SPNEGO") 0 0) octets

-- the octets up to and with one that is refused
abbrev pub seen : Option Refusal → List ℕ → List ℕ
seen None octets = octets
seen (Some refusal) octets = take (refusal.place + 1) octets

-- how many of them are right: where something is missing, all, since nothing is wrong with the last
abbrev pub before_fault : Why → ℕ → ℕ
before_fault why.Missing place = place + 1
before_fault reason place = place

abbrev pub right : Option Refusal → List ℕ → ℕ
right None octets = length octets
right (Some refusal) octets = before_fault refusal.why refusal.place

abbrev pub listing_of : Context → Items → Listed → Listed
listing_of context items listed = listed_part context items.cut (listed_items context items.items listed)

-- what the label of records adds at the end of an object
abbrev pub last_members : Label → List ℕ
last_members label = last_text label.form (with_label label (printed [] [])).last

abbrev pub context_by : Label → List ℕ → Option Refusal → Context
context_by label octets fault = record { form = label.form; begin = begin_text label; last = last_members label; octets = octets; fault = fault }

abbrev pub limits_by : List ℕ → Option Refusal → Limits
limits_by octets fault = record { limit = right fault octets; fault = fault }

-- What is listed after a text: the items of octets, up to the one at fault if something is refused
unfoldable pub reached : Label → List ℕ → Lies → List ℕ → Option Refusal → Listed
reached label text lies octets fault =
    listing_of (context_by label (seen fault octets) fault)
    (items_as lies (limits_by octets fault) (seen fault octets))
    (record { text = text; count = 0; shown = record { from = 0; hides = false } })

-- ---- the first length
-- how many octets the first head has, and how many there are by its length, with it
abbrev pub announced_by : Option Head → Option FirstHead
announced_by None = None
announced_by (Some head) = Some (record { header = head.header; all = head.header + head.size })

abbrev pub announced_frame : Option ℕ → Option FirstHead
announced_frame None = None
announced_frame (Some size) = Some (record { header = 4; all = 4 + size })

abbrev pub announced : Lies → List ℕ → Option FirstHead
announced lies.Alone octets = announced_by (head_in octets)
announced lies.Ticket octets = announced_by (head_in octets)
announced lies.Framed octets = announced_frame (frame_size octets)
announced lies.Gss octets = announced_by (head_in octets)
announced (lies.Spnego neg) octets = announced_by (head_in octets)

-- octets were cut, or more follows
abbrev pub is_of_length : Why → Bool
is_of_length why.Overrun = true
is_of_length why.Loose = true
is_of_length reason = false

abbrev pub believed_by : Refusal → Option FirstHead → Option ℕ
believed_by refusal None = None
believed_by refusal (Some announced) =
    if is_of_length refusal.why && (announced.header == refusal.place + 1) && nat_le announced.all 2147483647 then Some announced.all else None

-- the number of octets by the first length, if what is refused is its last octet, since it is not that number
abbrev pub believed : Lies → List ℕ → Refusal → Option ℕ
believed lies octets refusal = believed_by refusal (announced lies octets)
