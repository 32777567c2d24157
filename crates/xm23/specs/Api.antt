-- The definitions that the exported calls promise, gathered from the crates below; those of xm23_run, xm23_run_journal,
-- xm23_judge, xm23_trace and xm23_sheet are in the crates of these names. Assumes nothing.
use Rattle.std.specs.Prelude.{ℕ, ◌+◌, ◌*◌}
-- xm23_decode replies number_of (decode_of word): the number of the instruction that the word means. [003 14]
pub use Rattle.isa.specs.Decode.{decode_of}
pub use Rattle.isa_number.specs.Number.{number_of}
-- xm23_encode replies encode_number instruction: reply_of gives the reply for each answer of the encoder, refusal_number
-- its refusal. [01 Who can be turned back]
pub use Rattle.isa_number.specs.Reply.{encode_number, reply_of, refusal_number}
-- xm23_range replies range_reply word: operation_of, first_of and last_of of the word, which say its operation and the ends
-- of its range. [02 §4]
pub use Rattle.isa_ranges.specs.Operation.{operation_of, operation_number}
pub use Rattle.isa_ranges.specs.Ranges.{first_of, last_of, range_reply}
-- xm23_count replies count_reply operation and xm23_next next_reply operation word: count_of is the number of words that
-- mean the operation, next_of the first legal one at or above the word, or none. [02 §11]
pub use Rattle.isa_card.specs.Words.{count_of, count_reply, next_of, next_reply}
-- xm23_back replies and leaves what back_call_of gives. What going back restores, over whole sessions, are GoesBack and
-- RunsOnAgain of journal_laws. [02 §8]
pub use Rattle.journal.specs.Ring.{Journal, journal_of}
pub use Rattle.journal.specs.Back.{Lent, lent_of}
pub use Rattle.journal.specs.Call.{BackClosing, back_call_of}
-- xm23_load_srec and xm23_write_srec reply and leave what load_call_of and write_call_of give; Restores is what 02 promises
-- of the text written. [02 §2]
pub use Rattle.srec_call.specs.Call.{Loaded, load_call_of, Written, write_call_of}
pub use Rattle.srec_call.specs.Trip.{Restores}
-- xm23_stack replies need_reply of its buffers and numbers: need_of is the largest total over all choices of devices.
-- That no stack reaches further below is `within` of stack_need, from StackPremises to Within. [02 §9]
pub use Rattle.stack_need.specs.Need.{need_of, need_reply}
-- xm23_assemble replies and leaves what assemble_call_of gives: verdict_of judges the source, placed_of has its statements
-- at their places, image_of is the image. [02 §12]
pub use Rattle.asm_sweeps.specs.Uses.{verdict_of}
pub use Rattle.asm_image.specs.Image.{placed_of, image_of}
pub use Rattle.asm_call.specs.Call.{Assembled, assemble_call_of}
-- xm23_places replies and leaves what places_call_of gives: verdict_of judges the source, listed_of has its lines up to and
-- with END, record_of the eight bytes of each. What the records tell of the image is in asm_places_laws. [call places]
pub use Rattle.asm_places.specs.Listing.{Listed, listed_of, record_of, records_of}
pub use Rattle.asm_places.specs.Call.{Recorded, places_call_of}
-- xm23_text replies and leaves what text_call_of gives: text_at is the word's text at a place, and TextStands says that it
-- stands whole at the start of the buffer. That a listing of texts assembles to its words is ListingAssembles of
-- asm_print_laws. [call text]
pub use Rattle.asm_print.specs.Print.{text_at}
pub use Rattle.asm_printer.specs.Call.{Printed, text_call_of, TextStands}

-- xm23_version replies versionNumber: major, minor and patch, which are those of the header.
abbrev pub version_number : ℕ
version_number = 1 * 65536 + 0 * 256 + 0
