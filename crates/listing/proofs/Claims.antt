-- The claim's parts, each proved where it belongs.
use Rattle.listing.specs.Claims.{ListingClaim}
use Rattle.listing.proofs.Again.{chosen_line, line_injective, same_instruction, listed_by_name}
use Rattle.listing.proofs.Promises.{text_is, bad_line}
use Rattle.listing.proofs.Codes.{whole_code, round_trip}
use Rattle.listing.proofs.Backward.{text_again}

pub listing_claim : ListingClaim
listing_claim =
    record {
      whole = λ code h e. (whole_code code h e).bytes;
      round_trip = round_trip;
      text_again = text_again;
      good_lines = text_is;
      bad_line = bad_line;
      listed_by_name = listed_by_name;
      same_instruction = λ w v h g e. (same_instruction w v h g e, line_injective w v h g e);
      chosen_line = chosen_line;
    }
