-- What C is given of a text.
use Rattle.std.specs.Prelude.{ℕ, ◌≡◌, ◌⊎◌, List, [], ◌++◌, length, take, drop, Option, Some, None}
use Rattle.krb_run.specs.declared.run.RunEnd.{RunEnd}
use Rattle.krb_run.specs.declared.run.RunEnd.TheVariants as run

-- The memory of the caller has as much of the text as there is room for, and the size is that of all of it.
pub record IsCopied {T : Type 0} (text before after : List T) (size : ℕ) : Type 0 where
  pub all : size ≡ length text
  pub copied : after ≡ take (length before) text ++ drop (length text) before

-- out of memory, and nothing was written
pub record WroteNothing (before after : List ℕ) (size_before size_after answer : ℕ) : Type 0 where
  pub memory : answer ≡ 3
  pub kept : after ≡ before
  pub size : size_after ≡ size_before

-- the status of a listing, as of its command
abbrev pub answer_of : RunEnd → ℕ
answer_of run.Clean = 0
answer_of run.Refused = 1
answer_of run.RefusedAtOnce = 1

-- a listing was made, and copied
pub record Wrote (Makes : List ℕ → RunEnd → Type 0) (before after : List ℕ) (size_after answer : ℕ) : Type 0 where
  pub text : List ℕ
  pub end : RunEnd
  pub made : Makes text end
  pub copied : IsCopied text before after size_after
  pub answered : answer ≡ answer_of end

abbrev pub IsListed : (Makes : List ℕ → RunEnd → Type 0) → (before after : List ℕ) → (size_before size_after answer : ℕ) → Type 0
IsListed Makes before after size_before size_after answer = WroteNothing before after size_before size_after answer ⊎ Wrote Makes before after size_after answer

-- a text that there may be was copied: 0 if there is one, and else 1, and a text of no octets
abbrev pub WroteOption : Option (List ℕ) → (before after : List ℕ) → (size_after answer : ℕ) → Type 0
WroteOption (Some text) before after size_after answer = IsCopied text before after size_after × (answer ≡ 0)
WroteOption None before after size_after answer = IsCopied [] before after size_after × (answer ≡ 1)

abbrev pub IsGiven : Option (List ℕ) → (before after : List ℕ) → (size_before size_after answer : ℕ) → Type 0
IsGiven text before after size_before size_after answer = WroteNothing before after size_before size_after answer ⊎ WroteOption text before after size_after answer

-- ---- two texts: one, and what is said of it
-- memory of the caller and the number beside it, before a call and after it
pub record Room : Type 0 where
  pub before : List ℕ
  pub after : List ℕ
  pub size_before : ℕ
  pub size_after : ℕ

abbrev pub IsIn : List ℕ → Room → Type 0
IsIn text room = IsCopied text room.before room.after room.size_after

abbrev pub IsKept : (answer : ℕ) → Room → Type 0
IsKept answer room = WroteNothing room.before room.after room.size_before room.size_after answer

pub record WroteBoth (Makes : (text said : List ℕ) → RunEnd → Type 0) (text said : Room) (answer : ℕ) : Type 0 where
  pub made_text : List ℕ
  pub made_said : List ℕ
  pub end : RunEnd
  pub made : Makes made_text made_said end
  pub copied : IsIn made_text text
  pub told : IsIn made_said said
  pub answered : answer ≡ answer_of end

abbrev pub IsToldOf : (Makes : (text said : List ℕ) → RunEnd → Type 0) → (text said : Room) → (answer : ℕ) → Type 0
IsToldOf Makes text said answer = (IsKept answer text × IsKept answer said) ⊎ WroteBoth Makes text said answer

-- No text, and this is said: words were wrong.
abbrev pub SaysWrong : (IsSaid : List ℕ → Type 0) → (text said : Room) → (answer : ℕ) → Type 0
SaysWrong IsSaid text said answer = (line : List ℕ) × IsSaid line × IsIn [] text × IsIn line said × (answer ≡ 2)
