-- What lister and assembler come to, in terms of words, their lines and their bytes alone (document 02, 11).
use Rattle.std.specs.Prelude.{◌≡◌, ℕ, ◌<◌, cond, List, ◌++◌, map, length, drop, ◌≢◌, slice_index}
use Rattle.short_forms.specs.Meaning.{is_legal}
use Rattle.text.specs.Digits.{digits}
use Rattle.forms.specs.Rows.{name_of}
use Rattle.forms.specs.ShortShapes.{shape_of, instruction_of, Word}
use Rattle.forms.specs.Encoding.{chosen}
use Rattle.listing.specs.Lines.{operands_text, figures, body_of, line_of}
use Rattle.listing.specs.Code.{words_at, end_at, text_of, listing_of}
use Rattle.listing.specs.Assembling.{read_at, bad_at, code_of, assembly_of}

-- a lent slice of bytes
abbrev pub Bytes : List ℕ → Type 0
Bytes code = (i : ℕ) → slice_index code i < 256

pub record ListingClaim : Type 0 where
  -- code that no word of is cut off is the bytes of its words
  pub whole : (code : List ℕ) → Bytes code → end_at code 0 ≡ length code → code_of (words_at code 0) ≡ code
  -- its listing assembles, to the same words, each the chosen one among the encodings of its instruction
  pub round_trip : (code : List ℕ) → Bytes code → end_at code 0 ≡ length code
      → (bad_at (listing_of code) 0 ≡ length (listing_of code)) × (assembly_of (listing_of code) ≡ code_of (map chosen (words_at code 0)))
  -- the other way: what assembles is whole words, and lists as the same text
  pub text_again : (text : List ℕ) → bad_at text 0 ≡ length text
      → (end_at (assembly_of text) 0 ≡ length (assembly_of text)) × (listing_of (assembly_of text) ≡ text)
  -- a text is the lines of the words that are read of it, one after another, and what is left from its first bad line on
  pub good_lines : (text : List ℕ) → text_of (read_at text 0) ++ drop (bad_at text 0) text ≡ text
  -- that line is no word's listing
  pub bad_line : (text : List ℕ) (w : ℕ) (rest : List ℕ) → Word w → drop (bad_at text 0) text ≢ line_of w ++ rest
  -- the tie to the machine: a word is listed by a name exactly where the machine's decoder takes it, and else as its digits
  pub listed_by_name : (w : ℕ)
      → body_of w ≡ cond (is_legal (instruction_of w)) (name_of (shape_of w).row ++ operands_text (shape_of w)) (digits 16 (figures w) w)
  -- two words with the same listing are the same instruction for the machine, and the same word is chosen for both
  pub same_instruction : (w v : ℕ) → Word w → Word v → line_of w ≡ line_of v → (instruction_of w ≡ instruction_of v) × (chosen w ≡ chosen v)
  -- the chosen word is listed as the word is
  pub chosen_line : (w : ℕ) → Word w → line_of (chosen w) ≡ line_of w
