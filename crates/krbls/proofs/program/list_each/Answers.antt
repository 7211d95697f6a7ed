use Rattle.std.proofs.Common.{rules, ◌≡◌, length, sym, ◌∙◌}
use Rattle.krbls.specs.Program.{is_named, labels_of}
use Rattle.krbls.proofs.EachSource.{each_named, each_unnamed}
use Rattle.krbls.proofs.program.list_each.Goals as goal

pub returns-then-is_conversion : goal.returns-then-is_conversion
returns-then-is_conversion g c =
    let named : c.names_sources.result ≡ is_named (labels_of c.args.command_line.now) (length c.args.sources.now) = search rules in
    each_unnamed (g.H.Host.around c.args.host.now) c.args.command_line.now c.args.now _ _ _ _ _ c.as_ref.ensures.value _ named
    (sym c.is_conversion.ensures ∙ c.if-is_conversion.true) c.run_sources_unnamed.ensures

pub returns-else-is_conversion : goal.returns-else-is_conversion
returns-else-is_conversion g c =
    let named : c.names_sources.result ≡ is_named (labels_of c.args.command_line.now) (length c.args.sources.now) = search rules in
    each_named (g.H.Host.around c.args.host.now) c.args.command_line.now c.args.now _ _ _ _ _ c.as_ref.ensures.value _ named c.labels_of-naming.result c.labels_of-naming.ensures
    (sym c.is_conversion.ensures ∙ c.if-is_conversion.false) c.run_sources.ensures
