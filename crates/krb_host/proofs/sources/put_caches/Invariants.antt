use Rattle.std.proofs.Common.{◌≡◌, ◌++◌, map, take}
use Rattle.krb_words.specs.Sources.{place_of}
use Rattle.krb_host.specs.Expanded.{cache_in}
use Rattle.krb_host.proofs.sources.put_caches.Given as goal

-- the caches of the names so far are there
abbrev pub invariant-loop-name : goal.invariant-loop-name
invariant-loop-name l = map place_of l.sources.items ≡ map place_of l.initial.sources.items ++ map (λ name. cache_in l.directory name.items) (take l.name-index l.names)
