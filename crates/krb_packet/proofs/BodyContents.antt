-- A body that was read: its content, or the field of it that is refused.
use Rattle.std.proofs.Common.{◌≡◌, ℕ, ◌+◌, Result, Ok, List, refl, ap, subst}
use Rattle.krb_file.specs.Fields.{Fault, Reader, ◌>>=◌, succeed, called, octets_at, Fails}
use Rattle.krb_file.specs.FieldReaders.{Cursor, HasRead, FailsBy, source_at}
use Rattle.krb_file.specs.declared.fault.FileFault.{FileFault}
use Rattle.krb_file.specs.declared.fault.FileFault.TheVariants as faults
use Rattle.krb_file.specs.declared.field_name.FieldName.TheVariants as fields
use Rattle.krb_file.proofs.FieldReaders.{some_rest}
use Rattle.krb_packet.specs.declared.block.BlockKind.{BlockKind}
use Rattle.krb_packet.specs.declared.block.Head.{Head}
use Rattle.krb_packet.specs.declared.block.Section.{Section}
use Rattle.krb_packet.specs.declared.body.Content.{Content}
use Rattle.krb_packet.specs.Numbers.{refused_at}
use Rattle.krb_packet.specs.Bodies.{head_at, content_at, in_body}
use Rattle.krb_packet.specs.Blocks.{content_in_file, read_body, fault_from, body_in, end_in, block_in}
use Rattle.krb_packet.proofs.Options.{Continues, continues_from, continues_read, continues_fails, continues_then, then_fails}

module _ (kind : BlockKind) (section : Section) (count place : ℕ) (head : Head) (MayFail : Type 0) where
  abbrev octets_in : Reader (List ℕ)
  octets_in = refused_at place (called fields.Body (octets_at head.left))

  abbrev content_in : List ℕ → Result Content Fault
  content_in octets = in_body (content_at kind head.order count section.interfaces) octets

  abbrev next : ℕ → List ℕ → Reader Content
  next begin octets = content_in_file begin (content_in octets)

  module _ (octets : List ℕ) (old new : Cursor) (read : HasRead octets_in octets old new) where
    on_content : Continues (read_body kind section count place head) (next old.place octets) old new
    on_content = continues_then (read_body kind section count place head) octets_in (next old.place) octets old old new (continues_from (λ begin. octets_in >>= next begin) old) read

    content_ok : (content : Content) → content_in octets ≡ Ok content → HasRead (next old.place octets) content new new
    content_ok content is = record { same_bounds = refl; from = λ rest there. (rest, there, ap (λ (r : Result Content Fault). content_in_file old.place r new.bounds (source_at new.place rest)) is) }

    pub body_read : (content : Content) → content_in octets ≡ Ok content → HasRead (read_body kind section count place head) content old new
    body_read content is = continues_read (read_body kind section count place head) (next old.place octets) content old new new on_content (content_ok content is)

    content_fails : (e : FileFault) → Fails e (content_in octets) → FailsBy (fault_from old.place e) (next old.place octets) MayFail new
    content_fails faults.Memory fails = tt
    content_fails faults.Read fails = absurd fails
    content_fails (faults.Refused fault) fails =
        let now = some_rest new in
        record { octets = now.rest; there = now.there; refused = ap (λ (r : Result Content Fault). content_in_file old.place r new.bounds (source_at new.place now.rest)) fails }

    pub body_fails : (e moved : FileFault) (begin : ℕ) → Fails e (content_in octets) → begin ≡ old.place → moved ≡ fault_from begin e → FailsBy moved (read_body kind section count place head) MayFail old
    body_fails e moved begin fails here is =
        rw (is, here) (continues_fails (read_body kind section count place head) (next old.place octets) (fault_from old.place e) MayFail old new on_content (content_fails e fails))

-- ---- the end of a block, which is refused after its body was read
module _ (kind : BlockKind) (section : Section) (count : ℕ) (MayFail : Type 0) where
  abbrev after_body : Head → Content → Reader Content
  after_body head content = end_in head >>= λ same. succeed content

  abbrev after_head : ℕ → Head → Reader Content
  after_head start head = body_in kind section count (start + 4) head >>= after_body head

  pub end_fails : (head : Head) (content : Content) (place : ℕ) (e : FileFault) (old mid new : Cursor) → place ≡ old.place + 4 → HasRead (head_at kind section.order) head old mid → HasRead (body_in kind section count place head) content mid new
      → FailsBy e (end_in head) MayFail new → FailsBy e (block_in kind section count) MayFail old
  end_fails head content place e old mid new here first second fails =
      let body : HasRead (body_in kind section count (old.place + 4) head) content mid new = subst (λ (p : ℕ). HasRead (body_in kind section count p head) content mid new) here second in
      let block = block_in kind section count in
      let on_head = continues_then block (head_at kind section.order) (after_head old.place) head old old mid (continues_from (λ start. head_at kind section.order >>= after_head start) old) first in
      let on_body = continues_then block (body_in kind section count (old.place + 4) head) (after_body head) content old mid new on_head body in
      continues_fails block (after_body head content) e MayFail old new on_body (then_fails (end_in head) (λ same. succeed content) e MayFail new fails)
