use Rattle.std.proofs.Common.{ℕ, ◌∙◌, List, Vec, Global, ap, map, refl, subst, ◌++◌}
use Rattle.krb_words.specs.Sources.{place_of}
use Rattle.krb_host.specs.Expanded.{IsEmptyTold, cache_in}
use Rattle.krb_host.proofs.Stand.{caches_put, fault_put, file_put, input_put}
use Rattle.krb_host.proofs.sources.put_source.Goals as goal

pub returns-in_ok-push-in-Input : goal.returns-in_ok-push-in-Input
returns-in_ok-push-in-Input g c = input_put _ _ _ _ c.in-Input.is c.in_ok-push-in-Input.ensures.items

pub returns-in_ok-push-in-File : goal.returns-in_ok-push-in-File
returns-in_ok-push-in-File g c =
    file_put _ _ _ _ c.in-File.file c.in_ok-copied-in-File.field-0 c.in-File.is c.in_ok-copied-in-File.ensures.0 c.in_ok-copied-in-File.ensures.1
    c.in_ok-push-in-File.ensures.items

pub returns-in_ok-put_caches-in-Ok : goal.returns-in_ok-put_caches-in-Ok
returns-in_ok-put_caches-in-Ok g c =
    caches_put _ _ _ _ (λ (name : Vec ℕ Global). name.items) c.in-Ok.names.items c.as_slice-in-Ok-2.result.now c.in-Directory.directory c.in-Directory.is
    c.in-Ok.ensures
    (subst (λ (l : List (Vec ℕ Global)). IsEmptyTold (g.H.Host.around c.args.host.now) c.args.source.now (map (λ (name : Vec ℕ Global). name.items) l)) c.as_slice.ensures.value c.tell_empty.ensures)
    c.as_slice-in-Ok-2.ensures.value
    (c.in_ok-put_caches-in-Ok.ensures ∙ ap (λ (path : List ℕ). map place_of c.args.sources.now.items ++ map (λ (name : Vec ℕ Global). cache_in path name.items) c.as_slice-in-Ok-2.result.now) c.as_slice-in-Ok.ensures.value)

pub returns-in-Err : goal.returns-in-Err
returns-in-Err g c = fault_put _ _ _ _ _ c.in-Directory.directory c.in-Directory.is tt c.tell_fault.ensures refl
