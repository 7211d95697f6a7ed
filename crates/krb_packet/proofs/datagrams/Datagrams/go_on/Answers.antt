use Rattle.std.proofs.Common.{◌≡◌, ◌<◌, ℕ, Some, None, List, length, set, get_or, refl, sym, ap, subst, ◌∙◌, rules}
use Rattle.std.specs.List.{remove}
use Rattle.std.specs.Box.{with_value}
use Rattle.krb_packet.specs.Table.{Table, pending_in}
use Rattle.krb_packet.specs.Fragments.{no_fragments_of, pending_with, whole_of}
use Rattle.krb_packet.specs.declared.fragments.Pending.{Pending}
use Rattle.krb_packet.specs.inner.Places.{IsIndex}
use Rattle.krb_packet.proofs.Places.{by_default, finished_none, finished_some, held, on_err, set_in, set_index, set_same}
use Rattle.krb_packet.proofs.datagrams.Datagrams.go_on.Goals as goal

pub take-requires : goal.take-requires
take-requires c =
    let place : c.index-place.result.now ≡ get_or c.args.self.now.places.items c.args.at 0 = c.index-place.ensures ∙ by_default c.args.self.now.places.items c.args.at c.index-place.result.now 0 c.requires.within in
    let there : c.index-place.result.now < length (pending_in c.args.self.now) = subst (λ (n : ℕ). n < length (pending_in c.args.self.now)) (sym place) (c.requires.index.within c.args.at c.requires.within) in
    let old : c.deref_mut.result.now ≡ get_or (pending_in c.args.self.now) c.index-place.result.now c.deref_mut.result.now = held c.args.self.now.pending.items c.index-place.result.now c.index_mut.result.now c.deref_mut.result.now c.deref_mut.result.now there c.index_mut.ensures.value c.deref_mut.ensures.value in
    record { «open» = ap whole_of old ∙ c.requires.index.«open» c.index-place.result.now c.deref_mut.result.now there }

pub returns-in_err-whole-clause-index : goal.returns-in_err-whole-clause-index
returns-in_err-whole-clause-index c =
    let place : c.index-place.result.now ≡ get_or c.args.self.now.places.items c.args.at 0 = c.index-place.ensures ∙ by_default c.args.self.now.places.items c.args.at c.index-place.result.now 0 c.requires.within in
    let there : c.index-place.result.now < length (pending_in c.args.self.now) = subst (λ (n : ℕ). n < length (pending_in c.args.self.now)) (sym place) (c.requires.index.within c.args.at c.requires.within) in
    let old : c.take.new.self ≡ get_or (pending_in c.args.self.now) c.index-place.result.now c.take.new.self = c.in_err-whole.ensures.memory ∙ held c.args.self.now.pending.items c.index-place.result.now c.index_mut.result.now c.deref_mut.result.now c.take.new.self there c.index_mut.ensures.value c.deref_mut.ensures.value in
    let same = set_in c.args.self.now.pending.items c.index-place.result.now c.index-place.result.now (with_value c.index_mut.result.now c.take.new.self) refl ∙ set_same (pending_in c.args.self.now) c.index-place.result.now c.take.new.self old in
    subst (λ (xs : List Pending). IsIndex c.args.self.now.places.items xs) (sym same) c.requires.index

pub returns-in_err-whole-clause-memory : goal.returns-in_err-whole-clause-memory
returns-in_err-whole-clause-memory c =
    let place : c.index-place.result.now ≡ get_or c.args.self.now.places.items c.args.at 0 = c.index-place.ensures ∙ by_default c.args.self.now.places.items c.args.at c.index-place.result.now 0 c.requires.within in
    let there : c.index-place.result.now < length (pending_in c.args.self.now) = subst (λ (n : ℕ). n < length (pending_in c.args.self.now)) (sym place) (c.requires.index.within c.args.at c.requires.within) in
    let old : c.take.new.self ≡ get_or (pending_in c.args.self.now) c.index-place.result.now c.take.new.self = c.in_err-whole.ensures.memory ∙ held c.args.self.now.pending.items c.index-place.result.now c.index_mut.result.now c.deref_mut.result.now c.take.new.self there c.index_mut.ensures.value c.deref_mut.ensures.value in
    let same = set_in c.args.self.now.pending.items c.index-place.result.now c.index-place.result.now (with_value c.index_mut.result.now c.take.new.self) refl ∙ set_same (pending_in c.args.self.now) c.index-place.result.now c.take.new.self old in
    on_err c.from_residual.result _ (ap (λ (xs : List Pending). let table : Table = record { pending = xs; given_up = c.args.self.now.given_up } in table) same)

pub remove-requires-clause-index : goal.remove-requires-clause-index
remove-requires-clause-index c =
    let place : c.index-place.result.now ≡ get_or c.args.self.now.places.items c.args.at 0 = c.index-place.ensures ∙ by_default c.args.self.now.places.items c.args.at c.index-place.result.now 0 c.requires.within in
    let there : c.index-place.result.now < length (pending_in c.args.self.now) = subst (λ (n : ℕ). n < length (pending_in c.args.self.now)) (sym place) (c.requires.index.within c.args.at c.requires.within) in
    let kept : c.take.new.self ≡ c.deref_mut.result.now = search rules in
    let old : c.take.new.self ≡ get_or (pending_in c.args.self.now) c.index-place.result.now c.take.new.self = kept ∙ held c.args.self.now.pending.items c.index-place.result.now c.index_mut.result.now c.deref_mut.result.now c.take.new.self there c.index_mut.ensures.value c.deref_mut.ensures.value in
    let same = set_in c.args.self.now.pending.items c.index-place.result.now c.index-place.result.now (with_value c.index_mut.result.now c.take.new.self) refl ∙ set_same (pending_in c.args.self.now) c.index-place.result.now c.take.new.self old in
    subst (λ (xs : List Pending). IsIndex c.args.self.now.places.items xs) (sym same) c.requires.index

pub returns-in-Some-clause-whole : goal.returns-in-Some-clause-whole
returns-in-Some-clause-whole c =
    let place : c.index-place.result.now ≡ get_or c.args.self.now.places.items c.args.at 0 = c.index-place.ensures ∙ by_default c.args.self.now.places.items c.args.at c.index-place.result.now 0 c.requires.within in
    let there : c.index-place.result.now < length (pending_in c.args.self.now) = subst (λ (n : ℕ). n < length (pending_in c.args.self.now)) (sym place) (c.requires.index.within c.args.at c.requires.within) in
    let all = pending_in c.args.self.now in
    let k = get_or c.args.self.now.places.items c.args.at 0 in
    let none = no_fragments_of c.args.fragment.now.original in
    let one = pending_with c.args.fragment.now (get_or all k none) in
    let inside : k < length all = c.requires.index.within c.args.at c.requires.within in
    let before : c.deref_mut.result.now ≡ get_or all k none = held c.args.self.now.pending.items c.index-place.result.now c.index_mut.result.now c.deref_mut.result.now none there c.index_mut.ensures.value c.deref_mut.ensures.value ∙ ap (λ (n : ℕ). get_or all n none) place in
    let is : whole_of one ≡ Some c.in-Some.whole = ap (λ (p : Pending). whole_of (pending_with c.args.fragment.now p)) (sym before) ∙ sym c.in_ok-whole.ensures.whole ∙ c.in-Some.is in
    sym (ap (λ r. r.0) (finished_some all c.args.self.now.given_up k one c.in-Some.whole inside is))

pub returns-in-Some-clause-state : goal.returns-in-Some-clause-state
returns-in-Some-clause-state c =
    let place : c.index-place.result.now ≡ get_or c.args.self.now.places.items c.args.at 0 = c.index-place.ensures ∙ by_default c.args.self.now.places.items c.args.at c.index-place.result.now 0 c.requires.within in
    let there : c.index-place.result.now < length (pending_in c.args.self.now) = subst (λ (n : ℕ). n < length (pending_in c.args.self.now)) (sym place) (c.requires.index.within c.args.at c.requires.within) in
    let kept : c.take.new.self ≡ c.deref_mut.result.now = search rules in
    let old : c.take.new.self ≡ get_or (pending_in c.args.self.now) c.index-place.result.now c.take.new.self = kept ∙ held c.args.self.now.pending.items c.index-place.result.now c.index_mut.result.now c.deref_mut.result.now c.take.new.self there c.index_mut.ensures.value c.deref_mut.ensures.value in
    let same = set_in c.args.self.now.pending.items c.index-place.result.now c.index-place.result.now (with_value c.index_mut.result.now c.take.new.self) refl ∙ set_same (pending_in c.args.self.now) c.index-place.result.now c.take.new.self old in
    let all = pending_in c.args.self.now in
    let k = get_or c.args.self.now.places.items c.args.at 0 in
    let none = no_fragments_of c.args.fragment.now.original in
    let one = pending_with c.args.fragment.now (get_or all k none) in
    let inside : k < length all = c.requires.index.within c.args.at c.requires.within in
    let before : c.deref_mut.result.now ≡ get_or all k none = held c.args.self.now.pending.items c.index-place.result.now c.index_mut.result.now c.deref_mut.result.now none there c.index_mut.ensures.value c.deref_mut.ensures.value ∙ ap (λ (n : ℕ). get_or all n none) place in
    let is : whole_of one ≡ Some c.in-Some.whole = ap (λ (p : Pending). whole_of (pending_with c.args.fragment.now p)) (sym before) ∙ sym c.in_ok-whole.ensures.whole ∙ c.in-Some.is in
    c.remove.ensures.removed ∙ ap (λ (xs : List Pending). let table : Table = record { pending = remove xs k; given_up = c.args.self.now.given_up } in table) same ∙ sym (ap (λ r. r.1) (finished_some all c.args.self.now.given_up k one c.in-Some.whole inside is))

pub returns-in-None-clause-whole : goal.returns-in-None-clause-whole
returns-in-None-clause-whole c =
    let place : c.index-place.result.now ≡ get_or c.args.self.now.places.items c.args.at 0 = c.index-place.ensures ∙ by_default c.args.self.now.places.items c.args.at c.index-place.result.now 0 c.requires.within in
    let there : c.index-place.result.now < length (pending_in c.args.self.now) = subst (λ (n : ℕ). n < length (pending_in c.args.self.now)) (sym place) (c.requires.index.within c.args.at c.requires.within) in
    let all = pending_in c.args.self.now in
    let k = get_or c.args.self.now.places.items c.args.at 0 in
    let none = no_fragments_of c.args.fragment.now.original in
    let one = pending_with c.args.fragment.now (get_or all k none) in
    let inside : k < length all = c.requires.index.within c.args.at c.requires.within in
    let before : c.deref_mut.result.now ≡ get_or all k none = held c.args.self.now.pending.items c.index-place.result.now c.index_mut.result.now c.deref_mut.result.now none there c.index_mut.ensures.value c.deref_mut.ensures.value ∙ ap (λ (n : ℕ). get_or all n none) place in
    let is : whole_of one ≡ None = ap (λ (p : Pending). whole_of (pending_with c.args.fragment.now p)) (sym before) ∙ sym c.in_ok-whole.ensures.whole ∙ c.in-None.is in
    sym (ap (λ r. r.0) (finished_none all c.args.self.now.given_up k one inside is))

pub returns-in-None-clause-state : goal.returns-in-None-clause-state
returns-in-None-clause-state c =
    let place : c.index-place.result.now ≡ get_or c.args.self.now.places.items c.args.at 0 = c.index-place.ensures ∙ by_default c.args.self.now.places.items c.args.at c.index-place.result.now 0 c.requires.within in
    let there : c.index-place.result.now < length (pending_in c.args.self.now) = subst (λ (n : ℕ). n < length (pending_in c.args.self.now)) (sym place) (c.requires.index.within c.args.at c.requires.within) in
    let all = pending_in c.args.self.now in
    let k = get_or c.args.self.now.places.items c.args.at 0 in
    let none = no_fragments_of c.args.fragment.now.original in
    let one = pending_with c.args.fragment.now (get_or all k none) in
    let inside : k < length all = c.requires.index.within c.args.at c.requires.within in
    let before : c.deref_mut.result.now ≡ get_or all k none = held c.args.self.now.pending.items c.index-place.result.now c.index_mut.result.now c.deref_mut.result.now none there c.index_mut.ensures.value c.deref_mut.ensures.value ∙ ap (λ (n : ℕ). get_or all n none) place in
    let is : whole_of one ≡ None = ap (λ (p : Pending). whole_of (pending_with c.args.fragment.now p)) (sym before) ∙ sym c.in_ok-whole.ensures.whole ∙ c.in-None.is in
    let added : c.take.new.self ≡ pending_with c.args.fragment.now c.deref_mut.result.now = search rules in
    let after = set_in c.args.self.now.pending.items c.index-place.result.now k (with_value c.index_mut.result.now c.take.new.self) place ∙ ap (λ (p : Pending). set all k p) (added ∙ ap (pending_with c.args.fragment.now) before) in
    ap (λ (xs : List Pending). let table : Table = record { pending = xs; given_up = c.args.self.now.given_up } in table) after ∙ sym (ap (λ r. r.1) (finished_none all c.args.self.now.given_up k one inside is))

pub returns-in-None-clause-index : goal.returns-in-None-clause-index
returns-in-None-clause-index c =
    let place : c.index-place.result.now ≡ get_or c.args.self.now.places.items c.args.at 0 = c.index-place.ensures ∙ by_default c.args.self.now.places.items c.args.at c.index-place.result.now 0 c.requires.within in
    let there : c.index-place.result.now < length (pending_in c.args.self.now) = subst (λ (n : ℕ). n < length (pending_in c.args.self.now)) (sym place) (c.requires.index.within c.args.at c.requires.within) in
    let all = pending_in c.args.self.now in
    let k = get_or c.args.self.now.places.items c.args.at 0 in
    let none = no_fragments_of c.args.fragment.now.original in
    let one = pending_with c.args.fragment.now (get_or all k none) in
    let inside : k < length all = c.requires.index.within c.args.at c.requires.within in
    let before : c.deref_mut.result.now ≡ get_or all k none = held c.args.self.now.pending.items c.index-place.result.now c.index_mut.result.now c.deref_mut.result.now none there c.index_mut.ensures.value c.deref_mut.ensures.value ∙ ap (λ (n : ℕ). get_or all n none) place in
    let is : whole_of one ≡ None = ap (λ (p : Pending). whole_of (pending_with c.args.fragment.now p)) (sym before) ∙ sym c.in_ok-whole.ensures.whole ∙ c.in-None.is in
    let added : c.take.new.self ≡ pending_with c.args.fragment.now c.deref_mut.result.now = search rules in
    let after = set_in c.args.self.now.pending.items c.index-place.result.now k (with_value c.index_mut.result.now c.take.new.self) place ∙ ap (λ (p : Pending). set all k p) (added ∙ ap (pending_with c.args.fragment.now) before) in
    subst (λ (xs : List Pending). IsIndex c.args.self.now.places.items xs) (sym after) (set_index c.args.self.now.places.items all k one c.requires.index inside (λ d. ap (λ (p : Pending). p.original) (by_default all k none d inside)) is)
