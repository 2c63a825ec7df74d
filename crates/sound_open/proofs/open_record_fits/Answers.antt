-- `sound_open::open_record_fits`: `record_fits` of the place that `spot_at` finds is the definition of `pending_fits`.
use Rattle.sound_open.proofs.open_record_fits.Goals as goal

pub returns : goal.returns
returns c = rw (c.record_fits.ensures, c.spot_at-spot.ensures)
