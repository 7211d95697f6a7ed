-- The head of a section header, whose length is refused after the byte-order magic was read.
use Rattle.std.proofs.Common.{◌≡◌, ℕ, ◌+◌, None, Result, Ok, Err, List, refl, ap, subst}
use Rattle.std.specs.Int.{w32}
use Rattle.krb_file.specs.Fields.{Reader, ◌>>=◌, succeed, called, next_octets_at}
use Rattle.krb_file.specs.FieldReaders.{Cursor, HasRead, FailsBy, source_at}
use Rattle.krb_source.specs.declared.file_why.FileWhy.{FileWhy}
use Rattle.krb_file.specs.declared.fault.FileFault.{FileFault}
use Rattle.krb_file.specs.declared.field_name.FieldName.{FieldName}
use Rattle.krb_file.specs.declared.field_name.FieldName.TheVariants as fields
use Rattle.krb_packet.specs.declared.order.ByteOrder.{ByteOrder}
use Rattle.krb_packet.specs.declared.order.ByteOrder.TheVariants as orders
use Rattle.krb_packet.specs.declared.block.Head.{Head}
use Rattle.krb_packet.specs.Numbers.{in_order, checked_at, checked_number, checked}
use Rattle.krb_packet.specs.Bodies.{byte_order, body_size, after_byte_order, section_head_at}
use Rattle.krb_packet.proofs.Options.{Continues, continues_from, continues_read, continues_fails, continues_then, then_fails}
use Rattle.krb_packet.proofs.Checking.{checked_fails}

abbrev after_size : ℕ → List ℕ → ByteOrder → ℕ → Reader Head
after_size place octets order size = checked_at fields.ByteOrder (place + 4) (after_byte_order size) >>= λ left. succeed (record { order = order; length = in_order w32 order octets; left = left })

abbrev after_order : ℕ → List ℕ → ByteOrder → Reader Head
after_order place octets order = checked_at fields.Length place (body_size (in_order w32 order octets)) >>= after_size place octets order

abbrev after_octets : ℕ → List ℕ → Reader Head
after_octets place octets = checked_number fields.ByteOrder w32 orders.BigEndian byte_order >>= after_order place octets

-- its first field is refused, or its second one
pub octets_fail : (e : FileFault) (MayFail : Type 0) (old : Cursor) → FailsBy e (called fields.Length (next_octets_at None 4)) MayFail old → FailsBy e section_head_at MayFail old
octets_fail e MayFail old fails =
    continues_fails section_head_at (called fields.Length (next_octets_at None 4) >>= after_octets old.place) e MayFail old old
    (continues_from (λ place. called fields.Length (next_octets_at None 4) >>= after_octets place) old)
    (then_fails (called fields.Length (next_octets_at None 4)) (after_octets old.place) e MayFail old fails)

pub order_fails : (octets : List ℕ) (e : FileFault) (MayFail : Type 0) (old mid : Cursor) → HasRead (called fields.Length (next_octets_at None 4)) octets old mid → FailsBy e (checked_number fields.ByteOrder w32 orders.BigEndian byte_order) MayFail mid → FailsBy e section_head_at MayFail old
order_fails octets e MayFail old mid first fails =
    continues_fails section_head_at (after_octets old.place octets) e MayFail old mid
    (continues_then section_head_at (called fields.Length (next_octets_at None 4)) (after_octets old.place) octets old old mid (continues_from (λ place. called fields.Length (next_octets_at None 4) >>= after_octets place) old) first)
    (then_fails (checked_number fields.ByteOrder w32 orders.BigEndian byte_order) (after_order old.place octets) e MayFail mid fails)

module _ (octets : List ℕ) (order : ByteOrder) (MayFail : Type 0) (old mid new : Cursor) (first : HasRead (called fields.Length (next_octets_at None 4)) octets old mid) (second : HasRead (checked_number fields.ByteOrder w32 orders.BigEndian byte_order) order mid new) where
  on_order : Continues section_head_at (after_order old.place octets order) old new
  on_order =
      continues_then section_head_at (checked_number fields.ByteOrder w32 orders.BigEndian byte_order) (after_order old.place octets) order old mid new
      (continues_then section_head_at (called fields.Length (next_octets_at None 4)) (after_octets old.place) octets old old mid (continues_from (λ place. called fields.Length (next_octets_at None 4) >>= after_octets place) old) first)
      second

  checked_from : (name : FieldName) (place : ℕ) (check : Result ℕ FileWhy) (e : FileFault) → place ≡ old.place → checked name place check ≡ Err e → checked name old.place check ≡ Err e
  checked_from name place check e here is = subst (λ (p : ℕ). checked name p check ≡ Err e) here is

  pub size_fails : (place : ℕ) (e : FileFault) → place ≡ old.place → checked fields.Length place (body_size (in_order w32 order octets)) ≡ Err e → FailsBy e section_head_at MayFail old
  size_fails place e here is =
      checked_fails section_head_at fields.Length old.place (body_size (in_order w32 order octets)) (after_size old.place octets order) e MayFail old new
      (checked_from fields.Length place (body_size (in_order w32 order octets)) e here is) on_order

  on_size : (size : ℕ) → body_size (in_order w32 order octets) ≡ Ok size → Continues section_head_at (after_size old.place octets order size) old new
  on_size size is =
      continues_then section_head_at (checked_at fields.Length old.place (body_size (in_order w32 order octets))) (after_size old.place octets order) size old new new on_order
      (record { same_bounds = refl; from = λ rest there. (rest, there, ap (λ (r : Result ℕ FileWhy). checked_at fields.Length old.place r new.bounds (source_at new.place rest)) is) })

  pub left_fails : (size place : ℕ) (e : FileFault) → place ≡ old.place → body_size (in_order w32 order octets) ≡ Ok size → checked fields.ByteOrder (place + 4) (after_byte_order size) ≡ Err e → FailsBy e section_head_at MayFail old
  left_fails size place e here read is =
      checked_fails section_head_at fields.ByteOrder (old.place + 4) (after_byte_order size) (λ left. succeed (record { order = order; length = in_order w32 order octets; left = left })) e MayFail old new
      (subst (λ (p : ℕ). checked fields.ByteOrder (p + 4) (after_byte_order size) ≡ Err e) here is) (on_size size read)

  pub head_read : (size left : ℕ) → body_size (in_order w32 order octets) ≡ Ok size → after_byte_order size ≡ Ok left → HasRead section_head_at (record { order = order; length = in_order w32 order octets; left = left }) old new
  head_read size left is also =
      let head : ℕ → Head = λ n. record { order = order; length = in_order w32 order octets; left = n } in
      continues_read section_head_at (succeed (head left)) (head left) old new new
      (continues_then section_head_at (checked_at fields.ByteOrder (old.place + 4) (after_byte_order size)) (λ n. succeed (head n)) left old new new (on_size size is)
      (record { same_bounds = refl; from = λ rest there. (rest, there, ap (λ (r : Result ℕ FileWhy). checked_at fields.ByteOrder (old.place + 4) r new.bounds (source_at new.place rest)) also) }))
      (record { same_bounds = refl; from = λ rest there. (rest, there, refl) })

pub checked_ok : (name : FieldName) (place : ℕ) (check : Result ℕ FileWhy) (value : ℕ) → checked name place check ≡ Ok value → check ≡ Ok value
checked_ok name place (Ok v) value is = let same : v ≡ value = cc in ap (λ (n : ℕ). let it : Result ℕ FileWhy = Ok n in it) same
checked_ok name place (Err why) value is = absurd cc
