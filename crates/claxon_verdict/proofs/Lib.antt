-- The arguments of a command line, one after another.
mod CommandLines
