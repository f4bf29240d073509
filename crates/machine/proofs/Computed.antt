-- A run that computes: `unfolding computed` opens every definition of the machine at once. What worked examples are stated over.
use mathlib.Core.List.{List}
use Rattle.bits.specs.Bit.{bit, field, of_bits, sum_of}
use Rattle.machine.specs.Memory.{sound}
use Rattle.machine.specs.Graphics.{selects, with_address, keeps, with_data, data_of, fits_gc, rotate_count, logic_function, write_mode, read_mode, odd_even, shift_mode, chained, memory_map}
use Rattle.machine.specs.Sequencer.{selects_seq, with_seq_address, seq_keeps, with_seq_data, seq_data_of, with_mark, fits_seq, seq_odd_even, chain_four, in_mask, stored_at, answers_from, gc_read_at}
use Rattle.machine.specs.Address.{in_window, mapped, offset}
use Rattle.machine.specs.DataPath.{data_bit, combined, masked, mask_bit, written_bit, visits, selected_plane, peeked_plane}
use Rattle.machine.specs.Deeds.{loaded, pixel_of, remade, stored_byte, laid, stored, agrees, compared, changed_bits, changed_at}
use Rattle.machine.specs.Deeds.{nibble, pair, chain4_pixel, cga_pixel, shown_in, latches_after, memory_after, value_of, perform}
use Rattle.machine.specs.Calls.{offset_number, plane_number, place_number, shown_number, vram_plan, seq_number_of, seq_value, seq_next, direct_plan, gc_number_of, gc_value}
use Rattle.machine.specs.Calls.{gc_next, access_number, show_number, pixels_number, counted, read_reply, write_deed, cpu_plan}
use Rattle.machine.specs.Step.{vram_step, sequencer_step, direct_step, graphics_step, cpu_step, State, Call, step, Run, run}

unfoldable pub computed : State → List Call → Run
unfolding bit field of_bits sum_of sound selects with_address keeps with_data data_of fits_gc rotate_count logic_function write_mode read_mode odd_even shift_mode
    chained memory_map selects_seq with_seq_address seq_keeps with_seq_data seq_data_of with_mark fits_seq seq_odd_even chain_four in_mask stored_at answers_from gc_read_at in_window
    mapped offset data_bit combined masked mask_bit written_bit visits selected_plane peeked_plane loaded pixel_of remade stored_byte laid stored agrees compared
    changed_bits changed_at nibble pair chain4_pixel cga_pixel shown_in latches_after memory_after value_of perform offset_number plane_number place_number shown_number
    vram_plan seq_number_of seq_value seq_next direct_plan gc_number_of gc_value gc_next access_number show_number pixels_number
    counted read_reply write_deed cpu_plan vram_step sequencer_step direct_step graphics_step cpu_step step run
computed s cs = run s cs
