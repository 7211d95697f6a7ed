-- A header and a value, if there is one, and the fields after it are put.
use Rattle.std.proofs.Common.{refl, ◌≡◌, ℕ, ◌+◌, List, ◌∷◌, ◌++◌, length, Bor, Option, Some, None, sym, subst, rules}
use Rattle.std.specs.Global.{Vec}
use Rattle.std.specs.Option.{option_map}
use Rattle.krb_der.specs.Octets.{length_octets}
use Rattle.krb_der.specs.Puts.{Puts}
use Rattle.krb_der.specs.Sizes.{saturated}
use Rattle.krb_msg.specs.Term.{Tagged, der, der_of_fields, octets_of_option}
use Rattle.krb_codec.proofs.Puts.{HasCapacity, HasSteps, puts_both, capacity_after, field_steps}
use Rattle.krb_codec.proofs.fields.OptionalRefEncodeFields.put.Given.{Over}
use Rattle.krb_codec.proofs.fields.OptionalRefEncodeFields.put.Goals.{After-size, in-Some, in_default}
use Rattle.krb_codec.proofs.fields.OptionalRefEncodeFields.put.Goals as goal

abbrev octets_of : (g : Over) → Option (Bor g.row.T.Denot) → List ℕ
octets_of g first = octets_of_option (der (Tagged g.row.INDEX g.T.Item.term)) (option_map (λ value. g.T.Item.value value.now) first)

steps : (g : Over) (value : Bor g.row.T.Denot) (first : Option (Bor g.row.T.Denot)) (size : ℕ) (more : List ℕ) (out : Vec ℕ) → first ≡ Some value → size ≡ saturated (length (der g.T.Item.term (g.T.Item.value value.now))) → HasCapacity (length (octets_of g first ++ more)) out → HasSteps (0xA0 + g.row.INDEX) size (der g.T.Item.term (g.T.Item.value value.now)) (der g.T.Item.term (g.T.Item.value value.now)) out
steps g value first size more out is e room = field_steps _ _ _ _ more _ refl e (subst (λ o. HasCapacity (length (octets_of g o ++ more)) out) is room)

in_item : (g : Over) (c : After-size g) → HasSteps (0xA0 + g.row.INDEX) c.size.result (der g.T.Item.term (g.T.Item.value c.in-Some.value.now)) (der g.T.Item.term (g.T.Item.value c.in-Some.value.now)) c.args.out.now
in_item g c = steps g c.in-Some.value c.args.self.now.0 _ (der_of_fields g.F.EncodeFields.fields (g.F.EncodeFields.values c.args.self.now.1)) _ c.in-Some.is c.size.ensures.octets (c.requires.short, c.requires.capacity)

put_some : (g : Over) (value : Bor g.row.T.Denot) (first : Option (Bor g.row.T.Denot)) (size : ℕ) (more : List ℕ) (out new newer last : Vec ℕ) → first ≡ Some value → size ≡ saturated (length (der g.T.Item.term (g.T.Item.value value.now))) → HasCapacity (length (octets_of g first ++ more)) out → Puts ((0xA0 + g.row.INDEX) ∷ length_octets size) out new → Puts (der g.T.Item.term (g.T.Item.value value.now)) new newer → last ≡ newer → Puts (octets_of g first) out last
put_some g value first size more out new newer last is e room header contents same =
    let put : Puts (octets_of g (Some value)) out newer = (steps g value first size more out is e room).item_put _ _ header contents in
    subst (Puts (octets_of g first) out) (sym same) (subst (λ o. Puts (octets_of g o) out newer) (sym is) put)

put_none : (g : Over) (first : Option (Bor g.row.T.Denot)) (out last : Vec ℕ) → first ≡ None → last ≡ out → Puts (octets_of g first) out last
put_none g first out last is same = rw (is, same) (search rules)

pub overflow_cast-size : goal.overflow_cast-size
overflow_cast-size g c = (in_item g (goal.at.overflow_cast-size g c).After-size).short

pub put_header-requires : goal.put_header-requires
put_header-requires g c = (in_item g (goal.at.put_header-requires g c).After-size).header

pub put-requires-clause-short : goal.put-requires-clause-short
put-requires-clause-short g c = ((in_item g (goal.at.put-requires-clause-short g c).After-size).contents _ c.put_header.ensures).0

pub put-requires-clause-capacity : goal.put-requires-clause-capacity
put-requires-clause-capacity g c = ((in_item g (goal.at.put-requires-clause-capacity g c).After-size).contents _ c.put_header.ensures).1

pub put-requires-2 : goal.put-requires-2
put-requires-2 g c =
    let more = der_of_fields g.F.EncodeFields.fields (g.F.EncodeFields.values c.args.self.now.1) in
    let first : Puts (octets_of g c.args.self.now.0) c.args.out.now c.match-self.out =
    elim c.match-self.branch [
      | in-Some w ↦ put_some g _ _ _ more _ _ _ _ w.in-Some.is w.size.ensures.octets (c.requires.short, c.requires.capacity) w.put_header.ensures w.put.ensures w.out-is
      | in_default w ↦ put_none g _ _ _ w.in_default.is w.out-is
    ] in
    let room = capacity_after _ more first (c.requires.short, c.requires.capacity) in
    record { tags = search rules; short = room.0; capacity = room.1 }

pub returns : goal.returns
returns g c =
    let more = der_of_fields g.F.EncodeFields.fields (g.F.EncodeFields.values c.args.self.now.1) in
    let first : Puts (octets_of g c.args.self.now.0) c.args.out.now c.match-self.out =
    elim c.match-self.branch [
      | in-Some w ↦ put_some g _ _ _ more _ _ _ _ w.in-Some.is w.size.ensures.octets (c.requires.short, c.requires.capacity) w.put_header.ensures w.put.ensures w.out-is
      | in_default w ↦ put_none g _ _ _ w.in_default.is w.out-is
    ] in
    puts_both _ more first c.put-2.ensures
