-- The numbers of sendings: how many came before each.
use Rattle.std.specs.Prelude.{ℕ, ◌≡◌, ◌==◌, ◌<◌, ◌^◌, ◌&&◌, ◌||◌, Bool, true, false, Option, Some, None, is_some}
use Rattle.std.specs.BTreeMap.{get, is_at}
use Rattle.std.specs.Map.{lookup}
use Rattle.std.specs.Ordering.{is_gt, is_lt}
use Rattle.std.specs.declared.cmp.Ordering.{Ordering}
use Rattle.krb_record.specs.declared.flow.Flow.{Flow}
use Rattle.krb_record.specs.declared.told.Request.{Request}
use Rattle.krb_record.specs.declared.told.Request.TheVariants as requests
use Rattle.krb_exchange.specs.contracts.flow_key.FlowKeyOrd.TheImpl as flow_key_order
use Rattle.krb_exchange.specs.contracts.open.KeyOrd.TheImpl as key_order
use Rattle.krb_exchange.specs.declared.flow_key.FlowKey.{FlowKey}
use Rattle.krb_exchange.specs.declared.open.Key.{Key}
use Rattle.krb_exchange.specs.declared.open.Open.{Open}
use Rattle.krb_exchange.specs.Happened.{same_flow, same_kind}

-- ---- the first and the latest of the numbers that pass
abbrev pub IsFirst : (ℕ → Bool) → Option ℕ → Type 0
IsFirst test None = (n : ℕ) → n < 2 ^ 64 → test n ≡ false
IsFirst test (Some number) = (number < 2 ^ 64) × (test number ≡ true) × ((n : ℕ) → n < number → test n ≡ false)

abbrev pub IsLatest : (ℕ → Bool) → Option ℕ → Type 0
IsLatest test None = (n : ℕ) → n < 2 ^ 64 → test n ≡ false
IsLatest test (Some number) = (number < 2 ^ 64) × (test number ≡ true) × ((n : ℕ) → number < n → n < 2 ^ 64 → test n ≡ false)

-- ---- by what flows and open requests are found
abbrev pub flow_key_cmp : FlowKey → FlowKey → Ordering
flow_key_cmp = flow_key_order.ghosts.cmp

abbrev pub flow_key : Flow → FlowKey
flow_key flow = record { port = flow.source.port; flow = flow }

abbrev pub key_cmp : Key → Key → Ordering
key_cmp = key_order.ghosts.cmp

abbrev pub key_of : Flow → Request → ℕ → Key
key_of flow kind number = record { flow = flow_key flow; request = kind; number = number }

-- ---- the open requests that are kept
-- the first key that is not less than one
abbrev pub IsFirstFrom : Key → Open → Option Key → Type 0
IsFirstFrom low kept None = (key : Key) → is_gt (key_cmp low key) ≡ false → get key_cmp kept.keys key ≡ None
IsFirstFrom low kept (Some first) = (is_gt (key_cmp low first) ≡ false) × (is_some (get key_cmp kept.keys first) ≡ true) × ((key : Key) → is_gt (key_cmp low key) ≡ false → is_some (get key_cmp kept.keys key) ≡ true → is_gt (key_cmp first key) ≡ false)

-- the last key that is not greater than one
abbrev pub IsLastUpTo : Key → Open → Option Key → Type 0
IsLastUpTo high kept None = (key : Key) → is_gt (key_cmp key high) ≡ false → get key_cmp kept.keys key ≡ None
IsLastUpTo high kept (Some last) = (is_gt (key_cmp last high) ≡ false) × (is_some (get key_cmp kept.keys last) ≡ true) × ((key : Key) → is_gt (key_cmp key high) ≡ false → is_some (get key_cmp kept.keys key) ≡ true → is_lt (key_cmp last key) ≡ false)

unfoldable pub has : Open → Flow → Request → ℕ → Bool
has kept flow kind number = is_some (lookup (is_at (key_cmp (key_of flow kind number))) kept.keys.entries)

abbrev pub same_key : Flow → Request → ℕ → Flow → Request → ℕ → Bool
same_key flow kind number other kind_of_other number_of_other = same_flow flow other && (same_kind kind kind_of_other && (number == number_of_other))

-- one of any kind
abbrev pub any_kind : (Request → ℕ → Bool) → ℕ → Bool
any_kind test number = test requests.AsReq number || (test requests.TgsReq number || test requests.Kpasswd number)

abbrev pub has_any : Open → Flow → ℕ → Bool
has_any kept flow = any_kind (has kept flow)

-- one of a kind that passes
abbrev pub has_if : Open → Flow → (Request → Bool) → Request → ℕ → Bool
has_if kept flow passes kind number = passes kind && has kept flow kind number
