-- The types of this crate as what the definitions speak of.
use Rattle.std.specs.Prelude.{ℕ, Bool, ◌+◌, ◌^◌, ◌<◌, ◌≤◌, if◌then◌else◌, List, length, map, Option, IfSome, Result}
use Rattle.std.specs.Option.{option_map}
use Rattle.krb_items.specs.Heads.{Begun, Headed}
use Rattle.krb_items.specs.Fronts.{Front, counted_front, token_front}
use Rattle.krb_items.specs.Items.{Item, Items, Part, Here, Limits, cut_in}
use Rattle.krb_items.specs.declared.begun.Begun.{Begun as BegunOfCode}
use Rattle.krb_items.specs.Records.{Context}
use Rattle.krb_items.specs.declared.fronts.Front.{Front as FrontOfCode}
use Rattle.krb_items.specs.declared.fronts.Judge.{Judge as JudgeOfCode}
use Rattle.krb_items.specs.declared.fronts.Stop.{Stop}
use Rattle.krb_items.specs.declared.listing.Source.{Source}
use Rattle.krb_items.specs.declared.walk.Here.{Here as HereOfCode}
use Rattle.krb_items.specs.declared.listing.Item.{Item as ItemOfCode}

abbrev pub begun_of : BegunOfCode → Begun
begun_of begun = record {
  layers = begun.layers.now;
  at = begun.at;
  depth = begun.depth;
  next = begun.next;
  heads = map (λ octets. octets.now) begun.heads.items;
  tags = begun.tags.items;
  size = begun.size;
}

-- an item with the contents of its heads, if these are right
abbrev pub headed_of : BegunOfCode → Option (List ℕ) → Headed
headed_of begun contents = record { begun = begun_of begun; contents = contents }

abbrev pub item_of : ItemOfCode → Item
item_of item = record { name = item.name.now; begun = begun_of item.begun.now; shown = option_map (λ leaf. (leaf.0, leaf.1.now)) item.shown }

abbrev pub part_of : Option (List ℕ) → BegunOfCode → Bool → Part
part_of name begun counted = record { name = name; begun = begun_of begun; counted = counted }

-- no place of an item is 2^41 or above
pub record IsNear (begun : BegunOfCode) : Type 0 where
  pub next : begun.next < 2 ^ 40
  pub size : IfSome begun.size (λ size. size < 2 ^ 40)

abbrev pub here_of : HereOfCode → Here
here_of here = record { layers = here.layers.now; name = here.name.now; place = here.place; depth = here.depth; number = here.number }

abbrev pub cut_of : Option (List ℕ) → BegunOfCode → Bool → Items
cut_of name begun counted = cut_in name (begun_of begun) counted

abbrev pub context_of : Source → Context
context_of source = record { form = source.form; begin = source.begin.now; last = source.last.now; octets = source.octets.now; fault = source.fault }

abbrev pub limits_of : Source → Limits
limits_of source = record { limit = source.limit; fault = source.fault }

abbrev pub front_of : FrontOfCode → Front
front_of front = record { place = front.place; room = front.room; octets = front.octets.now }

-- the octets of a front fit in its room, which ends before 2^31
pub record IsInRoom (front : FrontOfCode) : Type 0 where
  pub short : front.place + front.room < 2 ^ 31
  pub fits : length front.octets.now ≤ front.room

-- how a token in one of SPNEGO is judged, if it is gone into
abbrev pub token_by : JudgeOfCode → Front → Result (Unit {0}) Stop
token_by judge front = if judge.opens then token_front judge.profile front else counted_front front
