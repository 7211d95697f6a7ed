use Rattle.std.proofs.Common.{List, map, inl, subst, sym, ◌∙◌}
use Rattle.krb_words.specs.Sources.{place_of}
use Rattle.krb_words.specs.declared.sources.Source.{Source}
use Rattle.krb_host.specs.Expanded.{Expands}
use Rattle.krbls.proofs.program.do_sources.Goals as goal

pub returns-in-Ok : goal.returns-in-Ok
returns-in-Ok g c = inl (record {
  sources = c.as_slice-sources.result.now;
  now = c.time_of-now.result;
  unread = c.in-Ok.expanded.status;
  listed = c.list_each-writer.result.1;
  expands =
      subst (λ (given : List Source). Expands (g.H.Host.around c.args.host.now) given (map place_of c.as_slice-sources.result.now) c.in-Ok.expanded.status) c.as_slice.ensures.value
      (subst (λ (sources : List Source). Expands (g.H.Host.around c.args.host.now) c.as_slice.result.now (map place_of sources) c.in-Ok.expanded.status) (sym c.as_slice-sources.ensures.value)
      c.in-Ok.ensures);
  time = c.time_of-now.ensures;
  lists = c.list_each-writer.ensures;
  greatest = c.from.ensures ∙ c.max.ensures;
})
