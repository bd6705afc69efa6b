-- The first two or four of the four bytes, the lowest first.
use Rattle.std.proofs.Common.{refl}
use Rattle.listing.proofs.Texts.{first_bytes}
use Rattle.listing.proofs.assembling.put_word.Goals as goal

pub slice_bounds-bytes-end : goal.slice_bounds-bytes-end
slice_bounds-bytes-end c = rw (c.to_le_bytes-bytes.ensures, c.bytes_length.ensures) (first_bytes c.args.w).1

pub slice_bounds-put_each-end : goal.slice_bounds-put_each-end
slice_bounds-put_each-end c = rw (c.to_le_bytes-bytes.ensures, c.bytes_length.ensures, (first_bytes c.args.w).0) refl

pub returns : goal.returns
returns c = rw (c.to_le_bytes-bytes.ensures, c.bytes_length.ensures, (first_bytes c.args.w).0) at c.put_each.ensures
