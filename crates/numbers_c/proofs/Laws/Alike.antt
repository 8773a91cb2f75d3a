-- Each export's promise determines its answer, as `numbers` shows it of its own functions. Assumes nothing.
--     NAME-alike  so it is with the promise of the export rungtwine_NAME
use Rattle.ground.proofs.Laws.Alike.{Alike, alike}
use Rattle.numbers_c.proofs.rungtwine_min.Kinds as min_kinds
use Rattle.numbers_c.proofs.rungtwine_min.Reads as min
use Rattle.numbers_c.proofs.rungtwine_max.Kinds as max_kinds
use Rattle.numbers_c.proofs.rungtwine_max.Reads as max
use Rattle.numbers_c.proofs.rungtwine_median.Kinds as median_kinds
use Rattle.numbers_c.proofs.rungtwine_median.Reads as median
use Rattle.numbers_c.proofs.rungtwine_median_channel.Kinds as median_channel_kinds
use Rattle.numbers_c.proofs.rungtwine_median_channel.Reads as median_channel
use Rattle.numbers_c.proofs.rungtwine_abs32.Kinds as abs32_kinds
use Rattle.numbers_c.proofs.rungtwine_abs32.Reads as abs32
use Rattle.numbers_c.proofs.rungtwine_abs64.Kinds as abs64_kinds
use Rattle.numbers_c.proofs.rungtwine_abs64.Reads as abs64
use Rattle.numbers_c.proofs.rungtwine_mix.Kinds as mix_kinds
use Rattle.numbers_c.proofs.rungtwine_mix.Reads as mix
use Rattle.numbers_c.proofs.rungtwine_narrow.Kinds as narrow_kinds
use Rattle.numbers_c.proofs.rungtwine_narrow.Reads as narrow
use Rattle.numbers_c.proofs.rungtwine_sqrt.Kinds as sqrt_kinds
use Rattle.numbers_c.proofs.rungtwine_sqrt.Reads as sqrt
use Rattle.numbers_c.proofs.rungtwine_floor.Kinds as floor_kinds
use Rattle.numbers_c.proofs.rungtwine_floor.Reads as floor
use Rattle.numbers_c.proofs.rungtwine_root_count.Kinds as root_count_kinds
use Rattle.numbers_c.proofs.rungtwine_root_count.Reads as root_count
use Rattle.numbers_c.proofs.rungtwine_first_root.Kinds as first_root_kinds
use Rattle.numbers_c.proofs.rungtwine_first_root.Reads as first_root
use Rattle.numbers_c.proofs.rungtwine_second_root.Kinds as second_root_kinds
use Rattle.numbers_c.proofs.rungtwine_second_root.Reads as second_root
use Rattle.numbers_c.proofs.rungtwine_normal_root.Kinds as normal_root_kinds
use Rattle.numbers_c.proofs.rungtwine_normal_root.Reads as normal_root
use Rattle.numbers_c.proofs.rungtwine_normal_root_count.Kinds as normal_root_count_kinds
use Rattle.numbers_c.proofs.rungtwine_normal_root_count.Reads as normal_root_count
use Rattle.numbers_c.proofs.rungtwine_normal_first_root.Kinds as normal_first_root_kinds
use Rattle.numbers_c.proofs.rungtwine_normal_first_root.Reads as normal_first_root
use Rattle.numbers_c.proofs.rungtwine_normal_second_root.Kinds as normal_second_root_kinds
use Rattle.numbers_c.proofs.rungtwine_normal_second_root.Reads as normal_second_root

pub min_alike : Alike 0 min_kinds.ps min_kinds.r min.Post
min_alike κs a r s e f = alike

pub max_alike : Alike 0 max_kinds.ps max_kinds.r max.Post
max_alike κs a r s e f = alike

pub median_alike : Alike 0 median_kinds.ps median_kinds.r median.Post
median_alike κs a r s e f = alike

pub median_channel_alike : Alike 0 median_channel_kinds.ps median_channel_kinds.r median_channel.Post
median_channel_alike κs a r s e f = alike

pub abs32_alike : Alike 0 abs32_kinds.ps abs32_kinds.r abs32.Post
abs32_alike κs a r s e f = alike

pub abs64_alike : Alike 0 abs64_kinds.ps abs64_kinds.r abs64.Post
abs64_alike κs a r s e f = alike

pub mix_alike : Alike 0 mix_kinds.ps mix_kinds.r mix.Post
mix_alike κs a r s e f = alike

pub narrow_alike : Alike 0 narrow_kinds.ps narrow_kinds.r narrow.Post
narrow_alike κs a r s e f = alike

pub sqrt_alike : Alike 0 sqrt_kinds.ps sqrt_kinds.r sqrt.Post
sqrt_alike κs a r s e f = alike

pub floor_alike : Alike 0 floor_kinds.ps floor_kinds.r floor.Post
floor_alike κs a r s e f = alike

pub root_count_alike : Alike 0 root_count_kinds.ps root_count_kinds.r root_count.Post
root_count_alike κs a r s e f = alike

pub first_root_alike : Alike 0 first_root_kinds.ps first_root_kinds.r first_root.Post
first_root_alike κs a r s e f = alike

pub second_root_alike : Alike 0 second_root_kinds.ps second_root_kinds.r second_root.Post
second_root_alike κs a r s e f = alike

pub normal_root_alike : Alike 0 normal_root_kinds.ps normal_root_kinds.r normal_root.Post
normal_root_alike κs a r s e f = alike

pub normal_root_count_alike : Alike 0 normal_root_count_kinds.ps normal_root_count_kinds.r normal_root_count.Post
normal_root_count_alike κs a r s e f = alike

pub normal_first_root_alike : Alike 0 normal_first_root_kinds.ps normal_first_root_kinds.r normal_first_root.Post
normal_first_root_alike κs a r s e f = alike

pub normal_second_root_alike : Alike 0 normal_second_root_kinds.ps normal_second_root_kinds.r normal_second_root.Post
normal_second_root_alike κs a r s e f = alike
