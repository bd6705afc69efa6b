-- `oddersnow_fit`: what `fit` hands back, with the payload's place by the part's length. Assumes nothing.
use Rattle.std.proofs.Common.{◌≡◌, ℕ, ◌-◌, ◌≤◌, List, length, refl, ◌∙◌}
use Rattle.fit.specs.Fit.{choice_of, outcome, place_of, image_number, refusal_number, of_image, Handed}
use Rattle.fit.specs.declared.Image.{Image}
use Rattle.fit.specs.declared.Image.TheVariants.{First, Second}
use Rattle.fit.specs.declared.NoFit.{NoFit}
use Rattle.fit.specs.declared.NoFit.TheVariants.{Neither, BadBoard, BadFirst, BadSecond}
use Rattle.fit.proofs.Choosing.{part_fits, part_place}
use Rattle.sheet_api.specs.Numbers.{fit_number, fit_packed, numbered, placed_at}
use Rattle.sheet_api.proofs.oddersnow_fit.Goals as goal

module _ {board one two part : List ℕ} {line : ℕ} where
  in_image : (i : Image) → Handed board one two part (image_number i) line → length part ≤ of_image i (length one) (length two)
  in_image First h = (part_fits h).0 refl
  in_image Second h = (part_fits h).1 refl

  place_in : (i : Image) → Handed board one two part (image_number i) line
      → of_image i (length one) (length two) - length part ≡ place_of (choice_of one two (outcome board one two))
  place_in First h = part_place h
  place_in Second h = part_place h

  no_place : (e : NoFit) → Handed board one two part (refusal_number e) line → 0 ≡ place_of (choice_of one two (outcome board one two))
  no_place Neither h = part_place h
  no_place (BadBoard n) h = part_place h
  no_place (BadFirst n) h = part_place h
  no_place (BadSecond n) h = part_place h

packed : {board one two part : List ℕ} {number line place : ℕ} → Handed board one two part number line
    → place ≡ place_of (choice_of one two (outcome board one two)) → fit_packed number place line ≡ fit_number (choice_of one two (outcome board one two))
unfolding fit_number
packed h e = rw (h.number_is, e, h.line_is)

packed_image : (i : Image) (place line : ℕ) → placed_at (image_number i) place ≡ fit_packed (image_number i) place line
unfolding fit_packed
packed_image First place line = refl
packed_image Second place line = refl

packed_refusal : (e : NoFit) (place line : ℕ) → numbered (refusal_number e) line ≡ fit_packed (refusal_number e) place line
unfolding fit_packed
packed_refusal Neither place line = refl
packed_refusal (BadBoard n) place line = refl
packed_refusal (BadFirst n) place line = refl
packed_refusal (BadSecond n) place line = refl

pub place_of-requires : goal.place_of-requires
place_of-requires c = in_image c.in-Ok.f.image c.in-Ok.ensures

pub returns-in-Ok : goal.returns-in-Ok
returns-in-Ok c =
    let h = c.in-Ok.ensures in
    let i = c.in-Ok.f.image in
    record { number_is = rw (c.beside.ensures, c.number.ensures) (packed_image i _ 0 ∙ packed h (c.place_of.ensures ∙ place_in i h)) }

pub returns-in-Err : goal.returns-in-Err
returns-in-Err c =
    let h = c.in-Err.ensures in
    let e = c.in-Err.e in
    record { number_is = rw (c.beside-in-Err.ensures, c.number-in-Err.ensures, c.line.ensures) (packed_refusal e 0 _ ∙ packed h (no_place e h)) }
