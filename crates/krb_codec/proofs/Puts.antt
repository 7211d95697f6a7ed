-- The number of octets of a value, that a vector has the capacity for them, and that they are appended: the same for any equal value.
use Rattle.std.proofs.Common.{◌≡◌, ℕ, ◌+◌, ◌≤◌, Fits, w32, List, ◌∷◌, ◌++◌, length, refl, sym, ap, subst, arith, length-append}
use Rattle.std.specs.Global.{Vec}
use Rattle.std.specs.Vec.{vec_len, vec_capacity}
use Rattle.krb_der.specs.Octets.{length_octets, item}
use Rattle.krb_der.specs.Puts.{Puts}
use Rattle.krb_der.specs.Sizes.{saturated}
use Rattle.krb_der.proofs.Appends.{appended}
use Rattle.krb_msg.specs.declared.message.Message.{Message}
use Rattle.krb_msg.specs.Term.{Term, Value, der}
use Rattle.krb_msg.specs.Views.{kind_of, kind_term, message_value, message_der}
use Rattle.krb_codec.specs.Encoding.{IsSized}

-- ---- a value of a term
pub sized : (term : Term) {value that : Value term} {size : ℕ} → value ≡ that → IsSized term value size → IsSized term that size
sized term {size = size} same s = subst (λ value. IsSized term value size) same s

-- its octets are not too many, and the vector has the capacity for them
abbrev pub HasCapacity : (octets : ℕ) → Vec ℕ → Type 0
HasCapacity octets out = (octets ≤ 2147483647) × (vec_len out + octets ≤ vec_capacity out)

pub has_capacity : (term : Term) {value that : Value term} (out : Vec ℕ) → value ≡ that → length (der term that) ≤ 2147483647 → vec_len out + length (der term that) ≤ vec_capacity out → HasCapacity (length (der term value)) out
has_capacity term out same short room = subst (λ value. HasCapacity (length (der term value)) out) (sym same) (short, room)

pub is_put : (term : Term) {value that : Value term} {old new : Vec ℕ} → value ≡ that → Puts (der term value) old new → Puts (der term that) old new
is_put term {old = old} {new = new} same p = subst (λ value. Puts (der term value) old new) same p

-- ---- a message
pub message_sized : {message that : Message} {size : ℕ} → message ≡ that → IsSized (kind_term (kind_of that)) (message_value that) size → IsSized (kind_term (kind_of message)) (message_value message) size
message_sized {size = size} same s = subst (λ m. IsSized (kind_term (kind_of m)) (message_value m) size) (sym same) s

pub message_short : {message that : Message} → message ≡ that → length (message_der message) ≤ 2147483647 → length (message_der that) ≤ 2147483647
message_short same short = subst (λ m. length (message_der m) ≤ 2147483647) same short

pub message_capacity : {message that : Message} (out : Vec ℕ) → message ≡ that → vec_len out + length (message_der message) ≤ vec_capacity out → vec_len out + length (message_der that) ≤ vec_capacity out
message_capacity out same room = subst (λ m. vec_len out + length (message_der m) ≤ vec_capacity out) same room

pub message_put : {message that : Message} {old new : Vec ℕ} → message ≡ that → Puts (message_der that) old new → Puts (message_der message) old new
message_put {old = old} {new = new} same p = subst (λ m. Puts (message_der m) old new) (sym same) p

-- ---- two parts, one after the other
pub puts_both : (octets more : List ℕ) {old new newer : Vec ℕ} → Puts octets old new → Puts more new newer → Puts (octets ++ more) old newer
puts_both octets more {old = old} first second = record {
  items = appended old.items _ _ octets more (octets ++ more) second.items first.items refl;
  len = omega (arith, length-append octets more);
  capacity = cc;
}

-- the vector that has the capacity for both has it for the second, once the first is put
pub capacity_after : (octets more : List ℕ) {old new : Vec ℕ} → Puts octets old new → HasCapacity (length (octets ++ more)) old → HasCapacity (length more) new
capacity_after octets more put room = let l = length-append octets more in (omega (arith, room.0), omega (arith, room.1))

-- ---- an item, whose header is put before its contents
-- What the steps ask for and give. The contents, `that`, are put as `octets`, `size` of them.
pub record HasSteps (tag size : ℕ) (octets that : List ℕ) (out : Vec ℕ) : Type 0 where
  pub short : Fits w32 size
  pub header : vec_len out + (1 + length (length_octets size)) ≤ vec_capacity out
  pub contents : (new : Vec ℕ) → Puts (tag ∷ length_octets size) out new → HasCapacity (length octets) new
  pub item_put : (new newer : Vec ℕ) → Puts (tag ∷ length_octets size) out new → Puts octets new newer → Puts (item tag that) out newer

pub item_steps : (tag size : ℕ) (octets that : List ℕ) (out : Vec ℕ) → octets ≡ that → size ≡ saturated (length octets) → HasCapacity (length (item tag that)) out → HasSteps tag size octets that out
item_steps tag size octets that out form e room =
    let l : length (item tag that) ≡ 1 + length (length_octets (length that)) + length that = simp length-append (omega arith) in
    let n : length octets ≡ length that = ap length form in
    let s : size ≡ length that = omega (arith, room.0) in
    let h : length (length_octets size) ≡ length (length_octets (length that)) = ap (λ k. length (length_octets k)) s in
    record {
      short = omega (arith, room.0);
      header = omega (arith, room.1);
      contents = λ new put. (omega (arith, room.0), omega (arith, room.1));
      item_put = λ new newer put other.
          puts_both (tag ∷ length_octets (length that)) that (subst (λ k. Puts (tag ∷ length_octets k) out new) s put) (subst (λ o. Puts o new newer) form other);
    }

-- the same of an item that is put before others
pub field_steps : (tag size : ℕ) (octets that more : List ℕ) (out : Vec ℕ) → octets ≡ that → size ≡ saturated (length octets) → HasCapacity (length (item tag that ++ more)) out → HasSteps tag size octets that out
field_steps tag size octets that more out form e room =
    let l = length-append (item tag that) more in
    item_steps tag size octets that out form e (omega (arith, room.0), omega (arith, room.1))
