-- What soundness says of an open value.
use Rattle.std.specs.Prelude.{ℕ, ◌+◌, ◌*◌, ◌%◌, ◌≤◌, ◌<◌, ◌≡◌, false}
use Rattle.model.specs.declared.Loading.{Loading}
use Rattle.model.specs.declared.Spot.TheVariants.{At}
use Rattle.model.specs.Stored.{area_size}
use Rattle.model.specs.Rows.{taken, descriptor_size, table_room}
use Rattle.model.specs.Loads.{file_list}
use Rattle.model.specs.Rules.{tag_spot}

-- an open '3100', with the rows taken and the number of descriptors: its bytes and those of the descriptors make
-- whole descriptors, no more than the table holds
pub record TableOpen (rows count held missing : ℕ) : Type 0 where
  pub untaken : taken rows 5 ≡ false
  pub fits : count * descriptor_size + held + missing ≤ table_room
  pub whole : (count * descriptor_size + held + missing) % descriptor_size ≡ 0
  pub part : held < descriptor_size

-- an open 'ssnn': its record is stored within the file area, and its bytes fit the record
pub record RecordOpen (l : Loading) (tag written missing : ℕ) : Type 0 where
  pub base : ℕ
  pub size : ℕ
  pub place : tag_spot (file_list l) tag ≡ At base size
  pub fits : written + missing ≤ size
  pub within : base + size ≤ area_size
