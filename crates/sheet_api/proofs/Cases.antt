-- The worked examples hold: the whole table computes. Assumes nothing.
use lib.Dec.{T}
use Rattle.text.specs.Digits.{digit_of, glyph, digits}
use Rattle.fit.specs.Fit.{within, held, fits, chosen, or_bad, regions_of, rest_of, judged, outcome, choice_of}
use Rattle.fit.specs.Fit.{verdict_of, place_of, line_of}
use Rattle.sheets.specs.Records.{word_at, name_words, record_words, sheet_words, record_at, judged_from}
use Rattle.sheets.specs.Records.{judged as judgedRecords}
use Rattle.sheets.specs.Scanning.{in_word, in_name, in_start, in_size, right_of, in_rights, advanced, line_read, whole, padded}
use Rattle.sheets.specs.Scanning.{region_in, takes, is_empty, ended, at_end, at_newline, read_from, read_of}
use Rattle.sheets.specs.Sheet.{is_letter, letters_of, name_of, all_zero, rights_text, line_text, sheet_text, formed, same, clash, clashes, admitted, follows}
use Rattle.sheet_compare.specs.Compare.{less, names_text, equal, stands, sooner, considered, least_of, next_name, names_after, differing}
use Rattle.sheet_api.specs.Bytes.{bytes}
use Rattle.sheet_api.specs.Cases.{judged_good, read_good, read_bad, lists, holds, all, forms, clashing, comparisons, images, cases}
use Rattle.sheet_api.specs.Numbers.{fit_packed, fit_number}

pub cases_hold : T (all cases)
unfolding all holds cases forms clashing comparisons images bytes judged_good read_good read_bad lists digit_of glyph digits word_at name_words
    record_words sheet_words record_at judged_from judgedRecords in_word in_name in_start in_size right_of in_rights advanced line_read whole padded
    region_in takes is_empty ended at_end at_newline read_from read_of is_letter letters_of name_of all_zero rights_text line_text sheet_text formed
    same clash clashes admitted follows less names_text equal stands sooner considered least_of next_name names_after differing within held fits
    chosen or_bad regions_of rest_of judged outcome choice_of verdict_of place_of line_of fit_packed fit_number
cases_hold = tt
