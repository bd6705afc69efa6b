-- A half's long form decodes to what its form means (`half_means`), and that is what the code gives.
use mathlib.Core.Path.{sym, ap, ◌∙◌}
use Rattle.short_forms.specs.Meaning.{meaning_of}
use Rattle.short_forms.proofs.Laws.{half_means}
use Rattle.short_forms.proofs.instruction_for.Goals as goal

pub returns : goal.returns
returns g c = c.meaning_for.ensures ∙ ap meaning_of c.short_form_for.ensures ∙ sym (half_means _)
