-- What stands for a source, and for several.
use Rattle.std.proofs.Common.{◌≡◌, ℕ, max, List, [], ◌∷◌, ◌++◌, map, inl, inr, refl, sym, ◌∙◌, ap, subst, arith}
use Rattle.std.specs.Ordering.{ord_max, nat_cmp}
use Rattle.std.proofs.lemmas.List.{append-nil, append_assoc, map-append}
use Rattle.std.proofs.lemmas.Simd.{map-map}
use Rattle.krb_run.specs.Faults.{IsRead}
use Rattle.krb_run.specs.declared.run.RunFault.{RunFault}
use Rattle.krb_words.specs.Sources.{Place, File, place_of}
use Rattle.krb_words.specs.declared.sources.NamedPath.{NamedPath}
use Rattle.krb_words.specs.declared.sources.Source.{Source}
use Rattle.krb_words.specs.declared.sources.Source.TheVariants as source
use Rattle.krb_host.specs.Around.{Around}
use Rattle.krb_host.specs.Expanded.{Expands, IsEmptyTold, Puts, Stands, cache_in}

-- ---- one source
module _ (around : Around) (s : Source) (before after : List Source) where
  pub input_put : s ≡ source.Input → after ≡ before ++ source.Input ∷ [] → Puts around s 0 before after
  input_put is more = record {
    places = place_of source.Input ∷ [];
    stands = subst (λ (t : Source). Stands around t (place_of source.Input ∷ []) 0) (sym is) (refl, refl);
    added = ap (map place_of) more ∙ map-append place_of before (source.Input ∷ []);
  }

  pub file_put : (file copy : NamedPath) → s ≡ source.File file → copy.name.items ≡ file.name.items → copy.path.items ≡ file.path.items → after ≡ before ++ source.File copy ∷ [] → Puts around s 0 before after
  file_put file copy is name path more = record {
    places = place_of (source.File copy) ∷ [];
    stands = subst (λ (t : Source). Stands around t (place_of (source.File copy) ∷ []) 0) (sym is)
        (ap (λ (n : List ℕ). File n copy.path.items ∷ []) name ∙ ap (λ (p : List ℕ). File file.name.items p ∷ []) path, refl);
    added = ap (map place_of) more ∙ map-append place_of before (source.File copy ∷ []);
  }

  pub caches_put : {V : Type 0} (items : V → List ℕ) (names read : List V) (directory : NamedPath) → s ≡ source.Directory directory → around.HasCaches directory (map items names) → IsEmptyTold around s (map items names) → read ≡ names → map place_of after ≡ map place_of before ++ map (λ name. cache_in directory.path.items (items name)) read → Puts around s 0 before after
  caches_put items names read directory is has told same more = record {
    places = map (λ name. cache_in directory.path.items (items name)) read;
    stands = subst (λ (t : Source). Stands around t (map (λ name. cache_in directory.path.items (items name)) read) 0) (sym is)
        (inl (map items names, has, subst (λ (t : Source). IsEmptyTold around t (map items names)) is told, ap (map (λ name. cache_in directory.path.items (items name))) same ∙ sym (map-map (cache_in directory.path.items) items names), refl));
    added = more;
  }

  pub fault_put : (fault : RunFault) (directory : NamedPath) → s ≡ source.Directory directory → IsRead fault → around.IsFaultTold s fault → after ≡ before → Puts around s 3 before after
  fault_put fault directory is read told same = record {
    places = [];
    stands = subst (λ (t : Source). Stands around t [] 3) (sym is) (inr (fault, read, subst (λ (t : Source). around.IsFaultTold t fault) is told, refl, refl));
    added = ap (map place_of) same ∙ sym (append-nil (map place_of before));
  }

-- ---- several
-- the greater of two statuses, as `max` compares them
greater-is : (a b : ℕ) → ord_max nat_cmp a b ≡ max a b
greater-is a b = grind arith

-- What stands for the others completes what stands for the sources so far, of which the status is the greatest.
pub record Grows (around : Around) (given rest now : List Source) (greatest : ℕ) : Type 0 where
  pub whole : (places : List Place) (status : ℕ) → Expands around rest places status → Expands around given (map place_of now ++ places) (max greatest status)

module _ (around : Around) (given rest : List Source) where
  pub Grows-begin : Grows around given given [] 0
  Grows-begin = record { whole = λ places status expands. subst (Expands around given places) (omega arith) expands }

  -- none is left
  pub Grows-end : (now : List Source) (greatest : ℕ) → Grows around given rest now greatest → rest ≡ [] → Expands around given (map place_of now) greatest
  Grows-end now greatest grows none =
      subst (λ (p : List Place). Expands around given p greatest) (append-nil (map place_of now))
      (subst (Expands around given (map place_of now ++ [])) (omega arith)
      (grows.whole [] 0 (subst (λ (l : List Source). Expands around l [] 0) (sym none) (refl, refl))))

  -- the others follow
  pub Grows-on : (first : Source) (others before after : List Source) (greatest status greater : ℕ) → Grows around given rest before greatest → rest ≡ first ∷ others → Puts around first status before after → greater ≡ ord_max nat_cmp greatest status → Grows around given others after greater
  Grows-on first others before after greatest status greater grows parts puts is = record {
    whole = λ places others_status expands.
        let is_max : greater ≡ max greatest status = is ∙ greater-is greatest status in
        subst (λ (p : List Place). Expands around given p (max greater others_status)) (sym (append_assoc (map place_of before) puts.places places) ∙ ap (λ (l : List Place). l ++ places) (sym puts.added))
        (subst (Expands around given (map place_of before ++ (puts.places ++ places))) (omega (arith, is_max))
        (grows.whole (puts.places ++ places) (max status others_status) (subst (λ (l : List Source). Expands around l (puts.places ++ places) (max status others_status)) (sym parts)
        (record { mine = puts.places; theirs = places; first = status; rest = others_status; stands = puts.stands; others = expands; all = refl; greatest = refl }))));
  }
