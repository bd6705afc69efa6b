-- Room in a lent buffer, counted down: what is left, or none once it was too little.
use Rattle.std.specs.Prelude.{ℕ, ◌-◌, Option, Some, None, cond, nat_le}

unfoldable pub spent : Option ℕ → (bytes : ℕ) → Option ℕ
spent None n = None
spent (Some left) n = cond (nat_le n left) (Some (left - n)) None
