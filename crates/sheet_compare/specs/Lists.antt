-- What a comparison lists: exactly the names that differ, in order, each once. Document 02, 7.
-- Assumes nothing.
use Rattle.std.specs.Prelude.{true, List, [], ◌∷◌, ◌⊎◌, ◌≡◌, ℕ}
use Rattle.sheets.specs.Scanning.{no_name}
use Rattle.sheets.specs.declared.Region.{Region}
use Rattle.sheet_compare.specs.Compare.{less}

pub data In {A : Type 0} : A → List A → Type 0 where
  here : {x : A} {l : List A} → In x (x ∷ l)
  there : {x y : A} {l : List A} → In x l → In x (y ∷ l)

-- a name of one sheet whose region, with that start, length and rights, is not in the other
pub data Odd (rs other : List Region) : List ℕ → Type 0 where
  odd : (r : Region) → In r rs → (In r other → ⊥) → Odd rs other r.name

-- a name that one sheet has and the other has not, or has with another start, length or rights
abbrev pub Differs : (a b : List Region) (name : List ℕ) → Type 0
Differs a b n = Odd a b n ⊎ Odd b a n

-- each name comes after the one before it, and the first after `last`
pub data After : (last : List ℕ) → List (List ℕ) → Type 0 where
  done : {last : List ℕ} → After last []
  next : {last n : List ℕ} {ns : List (List ℕ)} → less last n ≡ true → After n ns → After last (n ∷ ns)

-- no name twice
pub data Once : List (List ℕ) → Type 0 where
  empty : Once []
  new : {n : List ℕ} {ns : List (List ℕ)} → (In n ns → ⊥) → Once ns → Once (n ∷ ns)

pub record ListsNames (a b : List Region) (names : List (List ℕ)) : Type 0 where
  pub sorted : After no_name names
  pub once : Once names
  pub sound : (n : List ℕ) → In n names → Differs a b n
  pub complete : (n : List ℕ) → Differs a b n → In n names

-- the same regions, in any order
pub record SameRegions (a b : List Region) : Type 0 where
  pub forth : (r : Region) → In r a → In r b
  pub back : (r : Region) → In r b → In r a
