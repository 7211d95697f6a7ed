-- What stands for the sources of a command line: each cache of a directory is a source of its own.
use Rattle.std.specs.Prelude.{ℕ, ◌≡◌, ◌⊎◌, max, List, [], ◌∷◌, ◌++◌, codes, map}
use Rattle.krb_run.specs.Faults.{IsRead}
use Rattle.krb_run.specs.declared.run.RunFault.{RunFault}
use Rattle.krb_words.specs.Sources.{Place, File, place_of}
use Rattle.krb_words.specs.declared.sources.Source.{Source}
use Rattle.krb_words.specs.declared.sources.Source.TheVariants as source
use Rattle.krb_host.specs.Around.{Around}

-- the cache of a name in the directory of a path
abbrev pub cache_in : List ℕ → List ℕ → Place
cache_in directory name = File (codes "DIR::" ++ directory ++ codes "/" ++ name) (directory ++ codes "/" ++ name)

-- what is said of a directory without a cache
abbrev pub no_cache : List ℕ
no_cache = codes "this directory has no credential cache: no name in it begins with tkt"

-- it is told if a source has no cache among these names
abbrev pub IsEmptyTold : Around → Source → List (List ℕ) → Type 0
IsEmptyTold around s [] = around.IsHintTold s no_cache
IsEmptyTold around s (first ∷ others) = Unit {0}

-- a source stands for itself, and a directory for each cache in it, and it is told if it has none; or it cannot be read, which is told
abbrev pub Stands : Around → Source → List Place → ℕ → Type 0
Stands around (source.Directory directory) places status =
    ((names : List (List ℕ)) × around.HasCaches directory names × IsEmptyTold around (source.Directory directory) names × (places ≡ map (cache_in directory.path.items) names) × (status ≡ 0))
    ⊎ ((fault : RunFault) × IsRead fault × around.IsFaultTold (source.Directory directory) fault × (places ≡ []) × (status ≡ 3))
Stands around s places status = (places ≡ place_of s ∷ []) × (status ≡ 0)

-- what stands for a source was appended to others
pub record Puts (around : Around) (s : Source) (status : ℕ) (before after : List Source) : Type 0 where
  pub places : List Place
  pub stands : Stands around s places status
  pub added : map place_of after ≡ map place_of before ++ places

-- each in turn, and the greatest of their statuses
pub record ExpandsFirst (First Others : List Place → ℕ → Type 0) (places : List Place) (status : ℕ) : Type 0 where
  pub mine : List Place
  pub theirs : List Place
  pub first : ℕ
  pub rest : ℕ
  pub stands : First mine first
  pub others : Others theirs rest
  pub all : places ≡ mine ++ theirs
  pub greatest : status ≡ max first rest

abbrev pub Expands : Around → List Source → List Place → ℕ → Type 0
Expands around [] places status = (places ≡ []) × (status ≡ 0)
Expands around (first ∷ others) places status = ExpandsFirst (Stands around first) (Expands around others) places status
