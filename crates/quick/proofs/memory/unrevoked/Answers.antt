-- What has no tag is kept either way; a tagged one by what the revocation test answered.
use Rattle.quick.proofs.Accesses.{untagged_kept}
use Rattle.std.proofs.Common.{sym, refl, ◌∙◌}
use Rattle.quick.proofs.memory.unrevoked.Goals as goal

pub returns-then-v-eq0 : goal.returns-then-v-eq0
returns-then-v-eq0 c = untagged_kept _ _ _ c.if-v-eq0.true

pub returns-then-is_revoked : goal.returns-then-is_revoked
returns-then-is_revoked c = rw (sym c.is_revoked.ensures ∙ c.if-is_revoked.true) refl

pub returns-else-is_revoked : goal.returns-else-is_revoked
returns-else-is_revoked c = rw (sym c.is_revoked.ensures ∙ c.if-is_revoked.false) refl
