use Rattle.std.proofs.Common.{◌≤◌, length-take, arith}
use Rattle.krb_decode.proofs.Sorted.{of-fewer, of-goes}
use Rattle.krb_decode.proofs.sorting.Sorter.write_lines.Goals as goal

pub returns-clause-of_messages : goal.returns-clause-of_messages
returns-clause-of_messages g c =
    let self = c.args.self.now in let text = c.args.text.now in let count = c.in_ok-count.count in
    let few : count ≤ c.lines_size.result = omega (arith, c.in_ok-count.ensures.bound, length-take c.lines_size.result text) in
    of-goes self.is_within self.begun.items count text c.requires (of-fewer count c.lines_size.result text few c.lines_size.ensures.of_messages)
