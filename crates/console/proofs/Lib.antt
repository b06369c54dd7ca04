mod Editions
