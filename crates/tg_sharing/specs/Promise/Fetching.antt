-- a set of one right
use Rattle.tg_rights.specs.Promise.Letters.{Letters, Right, read, write, take, grant, read_alone, write_alone, take_alone, grant_alone}

-- one right alone
abbrev pub alone : Right → Letters
alone read = read_alone
alone write = write_alone
alone take = take_alone
alone grant = grant_alone
