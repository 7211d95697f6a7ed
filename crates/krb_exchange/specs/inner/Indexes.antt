-- By what sendings are found: what an index says of those that are kept.
use Rattle.std.specs.Prelude.{ℕ, ◌≡◌, ◌+◌, ◌-◌, ◌<◌, ◌≤◌, ◌^◌, ◌==◌, ◌||◌, ◌&&◌, nat_lt, Bool, true, false, cond, if◌then◌else◌, List, [], ◌∷◌, ◌++◌, length, Option, Some, None, slice_get}
use Rattle.std.specs.Option.{option_map}
use Rattle.std.specs.BTreeMap.{is_at}
use Rattle.std.specs.Map.{lookup}
use Rattle.std.specs.declared.cmp.Ordering.{Ordering}
use Rattle.krb_record.specs.declared.flow.Flow.{Flow}
use Rattle.krb_record.specs.declared.told.Request.{Request}
use Rattle.krb_exchange.specs.contracts.fingerprint.FingerprintOrd.TheImpl as fingerprint_order
use Rattle.krb_exchange.specs.declared.fingerprint.Fingerprint.{Fingerprint}
use Rattle.krb_exchange.specs.declared.flow_key.FlowKey.{FlowKey}
use Rattle.krb_exchange.specs.declared.index.Index.{Index}
use Rattle.krb_exchange.specs.declared.sending.Sending.{Sending}
use Rattle.krb_exchange.specs.declared.window.Window.{Window}
use Rattle.krb_exchange.specs.Happened.{has_octets, is_open, is_open_request, is_syn, is_syn_of, latest_place, passes, same_kind}
use Rattle.krb_exchange.specs.inner.Numbers.{flow_key, flow_key_cmp, has, same_key}

abbrev pub fingerprint_cmp : Fingerprint → Fingerprint → Ordering
fingerprint_cmp = fingerprint_order.ghosts.cmp

-- whether a key is that of a flow
abbrev pub is_of : Flow → FlowKey → Bool
is_of flow key = is_at (flow_key_cmp (flow_key flow)) key

-- the number of a place
abbrev pub numbered : ℕ → Option ℕ → Option ℕ
numbered gone place = option_map (λ p. gone + p) place

-- the sending of a number
abbrev pub at_number : ℕ → List Sending → ℕ → Option Sending
at_number gone sendings number = if nat_lt number gone then None else slice_get sendings (number - gone)

abbrev pub with_octets : Fingerprint → Sending → Bool
with_octets octets one = has_octets octets one.what

-- how many of them are SYNs that are open
abbrev pub one_if : Bool → ℕ
one_if true = 1
one_if false = 0

abbrev pub is_open_syn : Sending → Bool
is_open_syn one = is_open one.state && is_syn one.what

abbrev pub open_syns_in : List Sending → ℕ
open_syns_in [] = 0
open_syns_in (one ∷ others) = one_if (is_open_syn one) + open_syns_in others

-- what an index says of sendings, of which the first has a number
pub record Indexes (index : Index) (gone : ℕ) (sendings : List Sending) : Type 0 where
  pub requests : (octets : Fingerprint) → lookup (is_at (fingerprint_cmp octets)) index.requests.entries ≡ numbered gone (latest_place (with_octets octets) sendings)
  pub syns : (flow : Flow) → lookup (is_of flow) index.syns.entries ≡ numbered gone (latest_place (is_syn_of flow) sendings)
  pub open_syns : index.open_syns ≡ open_syns_in sendings
  pub requests_open : (flow : Flow) (kind : Request) (number : ℕ) → has index.«open» flow kind number ≡ passes (is_open_request flow (same_kind kind)) (at_number gone sendings number)

-- a number that is kept
abbrev pub is_kept : ℕ → Option ℕ → Bool
is_kept number None = false
is_kept number (Some n) = n == number

-- a request is added to an index
pub record AddsRequest (old new : Index) (flow : Flow) (kind : Request) (octets : Fingerprint) (number : ℕ) : Type 0 where
  pub requests : (q : Fingerprint) → lookup (is_at (fingerprint_cmp q)) new.requests.entries ≡ cond (is_at (fingerprint_cmp octets) q) (Some number) (lookup (is_at (fingerprint_cmp q)) old.requests.entries)
  pub syns : new.syns.entries ≡ old.syns.entries
  pub open_syns : new.open_syns ≡ old.open_syns
  pub requests_open : (f : Flow) (k : Request) (n : ℕ) → has new.«open» f k n ≡ (same_key flow kind number f k n || has old.«open» f k n)

-- and a SYN, which is open
pub record AddsSyn (old new : Index) (flow : Flow) (number : ℕ) : Type 0 where
  pub requests : new.requests.entries ≡ old.requests.entries
  pub syns : (q : Flow) → lookup (is_of q) new.syns.entries ≡ cond (is_of flow (flow_key q)) (Some number) (lookup (is_of q) old.syns.entries)
  pub open_syns : new.open_syns ≡ old.open_syns + 1
  pub requests_open : (f : Flow) (k : Request) (n : ℕ) → has new.«open» f k n ≡ has old.«open» f k n

-- the sendings of a window, and one that is about to be added
abbrev pub with_ahead : Option Sending → List Sending → List Sending
with_ahead None sendings = sendings
with_ahead (Some one) sendings = sendings ++ one ∷ []

pub record Keeps (window : Window) (ahead : Option Sending) : Type 0 where
  pub indexes : Indexes window.index window.gone (with_ahead ahead window.sendings.items)
  pub few : length window.sendings.items ≤ 65536
  pub numbers : window.gone + length (with_ahead ahead window.sendings.items) < 2 ^ 64
