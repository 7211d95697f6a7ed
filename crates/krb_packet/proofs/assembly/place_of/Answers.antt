use Rattle.std.proofs.Common.{arith, rules}
use Rattle.std.proofs.lemmas.List.Sorted.{IsPartitionPoint-from_clause}
use Rattle.krb_packet.specs.Parts.{is_before}
use Rattle.krb_packet.proofs.Pieces.{partitioned}
use Rattle.krb_packet.proofs.assembly.place_of.Goals as goal

pub returns : goal.returns
returns c = λ octets are.
    let at = IsPartitionPoint-from_clause (λ part. is_before part.span c.args.span) c.args.parts.now c.partition_point.result c.partition_point.ensures.partitioned (partitioned octets c.args.parts.now c.args.span are) (λ a r q k. search rules) in
    record {
      within = c.partition_point.ensures.bound;
      before = λ k d before. at.0 k d (omega arith) before;
      from = λ k d from within. at.1 k d from within;
    }
