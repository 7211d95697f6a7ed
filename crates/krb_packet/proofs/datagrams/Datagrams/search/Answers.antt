use Rattle.std.proofs.Common.{get_or, rules}
use Rattle.std.proofs.lemmas.Fn.{always_returns_same}
use Rattle.krb_packet.specs.Fragments.{no_fragments_of}
use Rattle.krb_packet.specs.Table.{pending_in}
use Rattle.krb_packet.specs.inner.Places.{original_cmp}
use Rattle.krb_packet.proofs.Places.{searched}
use Rattle.krb_packet.proofs.datagrams.Datagrams.search.Goals as goal

pub returns : goal.returns
returns c = searched c.args.self.now.places.items c.deref.result.now (pending_in c.args.self.now) c.args.original.now c.binary_search_by.result c.requires c.deref.ensures.value c.binary_search_by.ensures.bound (c.binary_search_by.ensures.position (λ place. original_cmp (get_or (pending_in c.args.self.now) place (no_fragments_of c.args.original.now)).original c.args.original.now) (always_returns_same _ _ _ (λ a r f k. search rules)))
